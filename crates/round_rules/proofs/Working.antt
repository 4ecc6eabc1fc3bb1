-- With one worker a round begins and ends.
use Rattle.std.proofs.Common.{◌≡◌, true, List, [], ◌++◌, refl, sym, ◌∙◌, subst, append-nil}
use mathlib.Core.List.{IsPrefix}
use Rattle.ason_base.specs.{declared.ids.NodeId.NodeId, declared.commands.Disturb.Disturb, Network.Network}
use Rattle.round_rules.specs.{Records.Record, Rings.{got_from, handed}, Rounds.{IsRoundAt, numbers_by}, States.StationState, Fleets.{AllBegun, AreStanding, Wires}, FleetOneWorker.{IsPartAt, RoundsBegin, RoundsEnd}}
use Rattle.round_rules.proofs.{Counting.taken-first, Nodes.among-ids, Rounding.ring-facts, MadeTurns.made-turn}

-- Before a round no node made its part.
pub rounds-begin : RoundsBegin
rounds-begin t lines r w xs all begun = record {
  stands = all;
  begun = begun;
  part = record {
    known = λ n h. absurd (cc (h));
    nodes = λ n h. absurd (cc (h));
    others = λ m h. refl;
    drops = λ u d. record { more = []; all = sym (append-nil (r.dropped u.0 d.0)); later = tt; may = tt };
    still = λ u d h. refl;
  };
  exact = refl;
}

-- The end

-- A node's part is its part of a round, where the stations stand for the record.
pub part-round : (t : Network) (lines : List Disturb) (before q : Record) (w : Wires) (xs : List StationState) →
    AreStanding t lines q w xs → AllBegun t w → (n : NodeId) → IsPartAt t lines before q n →
    IsRoundAt t lines before q n
part-round t lines before q w xs all begun n p = record {
  due = p.due;
  pops = p.pops;
  frames = record {
    held = p.held;
    sent = p.sent;
    first = λ u joined. subst (λ ks. IsPrefix ks (handed t q u n)) (got u)
        (taken-first t q u n (w u.0 n.0) (w n.0 u.0) (ring-facts t lines q w xs all u n joined) (begun u n joined));
  };
  turn = p.turn;
  taken = p.taken;
}
  where
    got : (u : NodeId) → got_from u (q.doings n.0) ≡ got_from u (before.doings n.0) ++ numbers_by u p.pops
    got = (made-turn t lines n true (before.doings n.0) (q.doings n.0) p.due p.pops p.held p.turn).got_all

-- Once all nodes made their parts it is a round.
pub rounds-end : RoundsEnd
rounds-end t lines before q w xs way = record {
  round = record {
    nodes = λ n known. part-round t lines before q w xs way.stands way.begun n
        (way.part.nodes n (among-ids t n ∙ known));
    others = λ n none. way.part.others n.0 (among-ids t n ∙ none);
    drops = way.part.drops;
  };
  one = λ e. way.exact;
}
