-- The header of a message, as a view of its bytes shows it.
use Rattle.wire.specs.Messages.{Header}
use Rattle.layout.specs.declared.header.HeaderView.{HeaderView}

abbrev pub header_seen : HeaderView → Header
header_seen v = record {
  byte3 = v.byte3;
  csb = v.csb;
  cs = v.cs;
  map_type = v.map_type;
  map_info = v.map_info.now;
}
