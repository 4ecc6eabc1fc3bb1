-- An event of a station, with the ends of its rings.
use Rattle.std.specs.{Prelude.{◌≡◌, ◌<◌, ◌^◌, ◌&&◌, ℕ, Bool, nat_lt, List, [], ◌∷◌, ◌++◌, Some}, List.AllZip}
use Rattle.ason_base.specs.{declared.limits.TheConstants.MOST_EVENTS, declared.ids.NodeId.NodeId, declared.commands.Event.Event}
use Rattle.control_channels.specs.{declared.frames.Frame.Frame, declared.inputs.CoreInput.CoreInput, Controllers.IsControllerStep}
use Rattle.round_rules.specs.{Moves.IsSentOver, States.StationState}

-- the number of its node
abbrev pub me_of : StationState → NodeId
me_of s = s.controller.node.place.id

-- whether a log of so many lines has room for one more, and the stamp is one of 64 bits
abbrev pub able : ℕ → ℕ → Bool
able lines stamp = nat_lt lines MOST_EVENTS && nat_lt stamp (2 ^ 64)

-- The controller takes an input, a line is written with this stamp, and the frames go out with it.
pub record HasEntered (i : CoreInput) (e : Event) (stamp : ℕ) (old new : StationState) : Type 0 where
  pub frames : List Frame
  pub step : IsControllerStep old.controller new.controller i frames
  pub few : old.controller.steps < MOST_EVENTS
  pub above : old.clock < stamp
  pub clock : new.clock ≡ stamp
  pub log : new.log ≡ old.log ++ record { stamp = stamp; node = Some (me_of old); event = e } ∷ []
  pub links : AllZip (IsSentOver stamp frames) old.links new.links
  pub desk : new.desk ≡ old.desk
  pub spare : new.spare ≡ old.spare
  pub held : new.held ≡ old.held
  pub lines : new.lines ≡ old.lines
