-- With all known in its rings a node's turns are a function of the record, where they come to their end.
use Rattle.std.proofs.{Common.{◌≡◌, List, [], ◌∷◌, ◌++◌, refl, sym, ap, ◌∙◌, append-nil, append_assoc, true, false, ℕ, Bool, cond, nat_eq, subst}, lemmas.List.append_cancel_left}
use Rattle.std.specs.{Prelude.{None, ◌||◌}, List.{AllByRecursion, AllZip, Contains}}
use Rattle.ason_base.specs.{Network.Network, declared.commands.Disturb.Disturb, declared.ids.NodeId.NodeId}
use Rattle.ason_base.proofs.{Members.{there-map, one-of_all}, Numbers.self-number}
use Rattle.world_rules.specs.WorldRuns.{neighbours_of}
use Rattle.station_rings.specs.LinkStates.{LinkState}
use Rattle.round_rules.specs.{Doings.Doing, Limits.{Progress, turn_to}, OneWorker.{node_end, turns_to}, Records.Record, Rings.{got_from, is_number_in}, Takings.{Taking, all_doings}, Moves.{HasMoved, IsDrained}, States.{IsTakenFrom, parcel_numbers}, Turned.{all_of, comes_to_end}, Fleets.Wires}
use Rattle.round_rules.proofs.{Numbers.{got-append, in-append}, Choosing.{Beside, zip-beside}, Done.FirstTurn, KnownTurns.{KnownTurns, turns-made}, Links.taken-more, TurnEnds.not-starved, TurnsExact.{end-is, links-between, stood-at, turn-exact}, Wired.link-peer}

no_takings : (gs : List Taking) → ((u : NodeId) (k : ℕ) → is_number_in (got_from u (all_doings gs)) k ≡ true → ⊥) →
    gs ≡ []
no_takings [] none = refl
no_takings (g ∷ gs) none = absurd (none g.from g.number there)
  where
    first : (b : Bool) (ks : List ℕ) → b ≡ true → is_number_in (cond b (g.number ∷ ks) ks) g.number ≡ true
    first true ks e = ap (λ b. b || is_number_in ks g.number) (self-number g.number)
    first false ks e = absurd (cc (e))

    there : is_number_in (got_from g.from (all_doings (g ∷ gs))) g.number ≡ true
    there = first (nat_eq g.from.0 g.from.0) _ (self-number g.from.0)

module _ (t : Network) (lines : List Disturb) (r : Record) (w : Wires) (k : KnownTurns t lines r w)
    (ended : comes_to_end k.alone.y.end ≡ true) where
  open k use {alone}
  open alone use {n, node, y, made}
  open turns-made t lines r w alone use {turned, after, links, did}

  first : FirstTurn t n true (r.doings n.0) turned.old y.station turned.done.added
  first = turned.first ended

  abbrev turn_one : List Doing
  turn_one = r.doings n.0 ++ first.part

  did_is : did ≡ turn_one ++ all_doings first.takings
  did_is =
      turned.whole_is ∙ ap (λ ks. r.doings n.0 ++ ks) first.all
      ∙ sym (append_assoc (r.doings n.0) first.part (all_doings first.takings))

  facts : AllZip (λ (u : NodeId) (b : LinkState). IsDrained (w n.0 u.0) b × HasMoved b (links u.0)) (neighbours_of t n)
      first.mid.links
  facts =
      links-between t lines r w k first.mid
      first.drained first.moved

  -- The later turns

  nothing_from : (u : NodeId) → Contains (neighbours_of t n) u → got_from u (all_doings first.takings) ≡ []
  nothing_from u near =
      append_cancel_left (got_from u turn_one) (got_from u (all_doings first.takings)) []
      (sym (got-append u turn_one (all_doings first.takings)) ∙ ap (got_from u) (sym did_is) ∙ same
      ∙ sym (append-nil (got_from u turn_one)))
    where
      b : Beside (λ (v : NodeId) (l : LinkState). IsDrained (w n.0 v.0) l × HasMoved l (links v.0)) first.mid.links u
      b =
          zip-beside (λ (v : NodeId) (l : LinkState). IsDrained (w n.0 v.0) l × HasMoved l (links v.0))
          (neighbours_of t n) first.mid.links u facts near

      g : HasMoved b.item (links u.0)
      g = b.is.1

      taken_mid : IsTakenFrom turn_one b.item
      taken_mid = one-of_all (IsTakenFrom turn_one) first.mid.links b.item first.stands.taken b.there

      taken_now : IsTakenFrom did (links u.0)
      taken_now =
          one-of_all (IsTakenFrom did) y.station.links (links u.0)
          (subst (λ ks. AllByRecursion (IsTakenFrom ks) y.station.links) (sym turned.whole_is) turned.done.stands.taken)
          (subst (λ ls. Contains ls (links u.0)) (sym turned.links)
          (there-map (λ (v : NodeId). links v.0) (neighbours_of t n) u near))

      mid_peer : b.item.peer ≡ u
      mid_peer = b.is.0.0.peer ∙ link-peer t lines r w n turned.old turned.was u near

      none : g.takes ≡ []
      none =
          (stood-at t lines r w k u b.item near
          b.is.0 g).later

      same : got_from u did ≡ got_from u turn_one
      same =
          ap (λ (v : NodeId). got_from v did) (sym (g.peer ∙ mid_peer))
          ∙ taken-more turn_one did b.item (links u.0) taken_mid taken_now g
          ∙ ap (λ ps. got_from b.item.peer turn_one ++ parcel_numbers ps) none
          ∙ append-nil (got_from b.item.peer turn_one) ∙ ap (λ (v : NodeId). got_from v turn_one) mid_peer

  no_later : (u : NodeId) (k : ℕ) → is_number_in (got_from u (all_doings first.takings)) k ≡ true → ⊥
  no_later u k h = absurd (cc (h, ap (λ ks. is_number_in ks k) (nothing_from u near)))
    where
      either : (a b : Bool) → b ≡ true → (a || b) ≡ true
      either true b e = refl
      either false b e = e

      near : Contains (neighbours_of t n) u
      near =
          turned.done.from_near (not-starved y.end ended) u k
          (ap (λ ks. is_number_in ks k) (ap (got_from u) first.all ∙ got-append u first.part (all_doings first.takings))
          ∙ in-append (got_from u first.part) (got_from u (all_doings first.takings)) k
          ∙ either (is_number_in (got_from u first.part) k) (is_number_in (got_from u (all_doings first.takings)) k) h)

  exactly : turns_to t lines r n ≡
      turn_to t turned.old.lines n true (r.doings n.0) first.one.due (all_of first.one.pops)
  exactly =
      turn-exact t lines r w k false first.mid
      first.part (all_doings first.takings) first.one first.moved first.all

  did_exactly : (turns_to t lines r n).doings ≡ did
  did_exactly =
      ap (λ (p : Progress). p.doings) exactly ∙ sym first.one.all ∙ sym (append-nil turn_one)
      ∙ ap (λ gs. turn_one ++ all_doings gs) (sym (no_takings first.takings no_later)) ∙ sym did_is

  -- so the record after is that of the node's round
  pub is-node-round : node_end t r n (turns_to t lines r n) ≡ record { made = after; stopped = None }
  is-node-round =
      end-is t r n (turns_to t lines r n) did false did_exactly
      (ap (λ (p : Progress). p.halted) exactly ∙ first.one.halts)
