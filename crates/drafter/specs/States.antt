-- A draft in whichever state, as its callers see it.
use Rattle.plain.specs.declared.calls.Reply.{Reply}
use Rattle.plain.specs.Steps.{Step}
use Rattle.drafter.specs.declared.states.State.{State}
use Rattle.drafter.specs.declared.states.State.TheVariants as state
use Rattle.drafter.specs.Views.{View, ViewEffect}

abbrev pub view_in : State → View
view_in (state.Open v) = v
view_in (state.Out v) = v
view_in (state.Released v) = v

-- a call turns a draft into the one, and gives the reply, that are made of it
abbrev pub StateTurned : Step → State → State × Reply → Type 0
StateTurned c before made = ViewEffect c (view_in before) (view_in made.0) made.1
