-- What a lawful message is.
use Rattle.std.specs.Prelude.{◌≡◌, ℕ, ◌^◌, ◌<◌, ◌≤◌, false, List, length}
use Rattle.std.specs.List.{AllByRecursion}
use Rattle.wire.specs.Octets.{Octets}
use Rattle.wire.specs.Limits.{most_payloads, longest_message, longest_signature}
use Rattle.wire.specs.Kinds.{is_sign}
use Rattle.wire.specs.Messages.{Header, Payload, Message, encode, all_payloads}
use Rattle.wire.specs.Layouts.{Body, Map}

pub record LawfulHeader (h : Header) : Type 0 where
  pub byte3 : h.byte3 < 256
  pub csb : h.csb < 2 ^ 32
  pub map : Map h.cs h.map_type h.map_info
  pub octets : Octets h.map_info

pub record LawfulPayload (p : Payload) : Type 0 where
  pub other : is_sign p.kind ≡ false
  pub body : Body p.kind p.body
  pub octets : Octets p.body

pub record LawfulSign (type : ℕ) (signature : List ℕ) : Type 0 where
  pub small : type < 16
  pub least : 0 < length signature
  pub most : length signature ≤ longest_signature
  pub octets : Octets signature

pub record Lawful (m : Message) : Type 0 where
  pub header : LawfulHeader m.header
  pub payloads : AllByRecursion LawfulPayload m.payloads
  pub sign : LawfulSign m.sign_type m.signature
  pub count : length (all_payloads m) ≤ most_payloads
  pub size : length (encode m) ≤ longest_message
