-- What a node adds in a turn that comes to its end.
use Rattle.std.proofs.Common.{◌≡◌, Bool, List, ◌++◌, sym, ap, ◌∙◌}
use Rattle.ason_base.specs.{declared.ids.NodeId.NodeId, declared.commands.Disturb.Disturb, Network.Network}
use Rattle.round_rules.specs.{Doings.Doing, Functions.{AreHeldAs, Popped, tick_if}, Held.due_in, Limits.{Progress, going, turn_to}, RecordLaws.AddsATurn, Rings.got_from, Rounds.numbers_by, Turns.IsTurnOf}
use Rattle.round_rules.proofs.{Ending.turns-end, Got.popped-got, Numbers.got-append, Turning.functions-are-turns}

-- What was added is a turn, and takes what was popped.
pub record MadeTurn (t : Network) (lines : List Disturb) (n : NodeId) (tick : Bool) (before after : List Doing)
    (pops : List Popped) : Type 0 where
  pub added : List Doing
  pub all : after ≡ before ++ added
  pub turn : IsTurnOf t lines n tick before added
  pub got : (u : NodeId) → got_from u added ≡ numbers_by u pops
  pub got_all : (u : NodeId) → got_from u after ≡ got_from u before ++ numbers_by u pops

-- What a turn adds, as a function of the frames to which it comes.
pub made-turn : (t : Network) (lines : List Disturb) (n : NodeId) (tick : Bool) (before after : List Doing)
    (due pops : List Popped) → AreHeldAs (due_in (tick_if tick before)) due →
    turn_to t lines n tick before due pops ≡ going after → MadeTurn t lines n tick before after pops
made-turn t lines n tick before after due pops held turn = record {
  added = f.added;
  all = all;
  turn = f.turn;
  got = got;
  got_all = λ u. ap (got_from u) all ∙ got-append u before f.added ∙ ap (λ ks. got_from u before ++ ks) (got u);
}
  where
    f : AddsATurn t lines n tick before due pops
    f = functions-are-turns t lines n tick before due pops held

    all : after ≡ before ++ f.added
    all =
        sym (ap (λ (p : Progress). p.doings) turn)
        ∙ turns-end t lines n tick before due pops (ap (λ (p : Progress). p.halted) turn) ∙ f.all

    got : (u : NodeId) → got_from u f.added ≡ numbers_by u pops
    got u = popped-got u t lines n tick before f.added due pops (turn ∙ ap going all)
