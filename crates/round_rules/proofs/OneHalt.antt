-- With all known in its rings a node that halts does so in its first turn, which is a function of the record.
use Rattle.std.proofs.Common.{◌≡◌, List, [], ◌++◌, sym, ap, ◌∙◌, append-nil, true, false, subst, inl, inr}
use Rattle.std.specs.{Prelude.Some, List.{AllZip, Contains}}
use Rattle.ason_base.specs.{Network.Network, declared.commands.Disturb.Disturb, declared.ids.NodeId.NodeId}
use Rattle.world_rules.specs.WorldRuns.{neighbours_of}
use Rattle.station_rings.specs.LinkStates.{LinkState}
use Rattle.round_rules.specs.{Doings.Doing, Held.{due_in}, Limits.{Progress, going, item_parts, turn_to}, OneWorker.{node_end, turns_to}, Records.Record, Moves.{HasMoved, IsDrained}, Turned.{HaveComeTo, all_of, is_at_limit}, Fleets.Wires}
use Rattle.round_rules.proofs.{AllTurns.no-due, Composing.{desk-empty, nothing-due}, Choosing.zip-there, Done.{IsHalt, LaterHalt}, KnownTurns.{KnownTurns, turns-made}, OneTurn.{OneTurn, all-moved-none}, Popping.{TakesNothing, none-popped}, Turned.are-held, TurnsExact.{end-is, links-between, stood-at, turn-exact}}

module _ (t : Network) (lines : List Disturb) (r : Record) (w : Wires) (k : KnownTurns t lines r w)
    (limit : is_at_limit k.alone.y.end ≡ true) where
  open k use {alone}
  open alone use {n, node, y, made}
  open turns-made t lines r w alone use {turned, after, links, did}

  at_first : OneTurn t n true (r.doings n.0) turned.old y.station true turned.done.added →
      node_end t r n (turns_to t lines r n) ≡ record { made = after; stopped = Some n }
  at_first one =
      end-is t r n (turns_to t lines r n) did true
      (ap (λ (p : Progress). p.doings) exactly ∙ sym one.all ∙ sym turned.whole_is)
      (ap (λ (p : Progress). p.halted) exactly ∙ one.halts)
    where
      exactly : turns_to t lines r n ≡ turn_to t turned.old.lines n true (r.doings n.0) one.due (all_of one.pops)
      exactly =
          turn-exact t lines r w k true y.station
          turned.done.added [] one (all-moved-none y.station.links) (sym (append-nil turned.done.added))

  -- After a turn that came to its end nothing is left to do, so none halts.

  module _ (l : LaterHalt t lines n true (r.doings n.0) turned.old y.station turned.done.added) where
    abbrev done : List Doing
    done = r.doings n.0 ++ l.part

    facts : AllZip (λ (u : NodeId) (b : LinkState). IsDrained (w n.0 u.0) b × HasMoved b (links u.0))
        (neighbours_of t n)
        l.mid.links
    facts =
        links-between t lines r w k l.mid l.drained
        l.moved

    takes_nothing : (u : NodeId) (b : LinkState) → Contains (neighbours_of t n) u →
        IsDrained (w n.0 u.0) b × HasMoved b (links u.0) → TakesNothing b (links u.0)
    takes_nothing u b near f = (
      λ g. (stood-at t lines r w k u b near f.0
          g).later,
      (stood-at t lines r w k u b near f.0
          f.1).nothing,
    )

    no_pops : all_of l.halted.pops ≡ []
    no_pops =
        none-popped true links (neighbours_of t n) l.mid.links l.halted.pops
        (zip-there (λ (u : NodeId) (b : LinkState). IsDrained (w n.0 u.0) b × HasMoved b (links u.0))
        (λ (u : NodeId) (b : LinkState). TakesNothing b (links u.0)) (neighbours_of t n) takes_nothing
        (neighbours_of t n)
        l.mid.links (λ u there. there) facts)
        (subst (λ ls. HaveComeTo true l.mid.links ls l.halted.pops) turned.links l.halted.are_pops)

    none_due : l.halted.due ≡ []
    none_due =
        no-due (due_in done) l.halted.due (nothing-due t lines n true (r.doings n.0) l.part l.whole)
        (are-held t n false done l.mid l.halted.due l.stands l.halted.are_due)

    -- such a turn doesn't halt
    never : ⊥
    never = absurd (cc (sym l.halted.halts ∙ goes))
      where
        goes : (turn_to t l.mid.lines n false done l.halted.due (all_of l.halted.pops)).halted ≡ false
        goes =
            (λ i. (turn_to t l.mid.lines n false done (none_due i) (no_pops i)).halted)
            ∙ ap (λ k. (item_parts k (going done)).halted)
            (desk-empty t lines n true (r.doings n.0) l.part l.whole)

  either : IsHalt t lines n true (r.doings n.0) turned.old y.station turned.done.added →
      node_end t r n (turns_to t lines r n) ≡ record { made = after; stopped = Some n }
  either (inl one) = at_first one
  either (inr l) = absurd (never l)

  -- so the record after is that of the node's round, which ends there
  pub ends-here : node_end t r n (turns_to t lines r n) ≡ record { made = after; stopped = Some n }
  ends-here = either (turned.halt limit)
