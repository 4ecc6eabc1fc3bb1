-- With all known in its rings what a node's first turn popped is a function of the record.
use Rattle.std.proofs.Common.{◌≡◌, List, ◌++◌, refl, sym, ap, ◌∙◌, append-nil, append_assoc, true, false, Bool, cond, subst}
use Rattle.std.specs.{Prelude.{None, Some}, List.{AllByRecursion, AllZip, Contains}}
use mathlib.Core.List.{IsPrefix}
use Rattle.rtrb.specs.Ring.{known_items, received}
use Rattle.ason_base.specs.{Network.Network, declared.commands.Disturb.Disturb, declared.ids.NodeId.NodeId}
use Rattle.ason_base.proofs.{Numbers.self-number, Members.{all-left, all-right}}
use Rattle.world_rules.specs.{WorldRuns.{is_world_channel, neighbours_of}, Worlds.world_start}
use Rattle.station_rings.specs.{Parcels.IsSentOf, LinkStates.{LinkState, gone_of}}
use Rattle.round_rules.specs.{Doings.{Doing, deeds_in}, Functions.{Popped, tick_if}, Held.due_in, Limits.{Progress, turn_to}, OneWorker.{after_turns, all_popped, due_popped, node_end, turns_to}, Records.{Record, deeds_at}, Moves.{HasMoved, IsDrained}, States.StationState, Turned.{HaveComeTo, all_of}, Fleets.Wires, PossibleRecords.IsRecord}
use Rattle.round_rules.proofs.{Desks.deeds-more, Ending.halts-are-last, Alone.standing-alone, Begun.{all-begun, wires-here}, Choosing.{zip-both, zip-from-map, zip-onto-map, zip-there}, Contents.{BearsSent, told-to, turn-same}, Counting.{RingFacts, stands-there}, Exact.{all-held, gone-sent}, Exacts.{bears-sent, sent_in_record}, Joined.standing-is-a-record, KnownTurns.{KnownTurns, turns-made}, Nodes.{channel-near, joins-nodes}, OneTurn.OneTurn, Popping.{ArePopped, ArePoppedOf, StoodAlone, all-popped, due-exact}, Rounding.ring-facts, Stood.{TakesWhatStood, takes-what-stood}, Turned.due-is, Wired.link-peer}

-- how a node's round ends
pub end-is : (t : Network) (r : Record) (n : NodeId) (p : Progress) (ks : List Doing) (halted : Bool) →
    p.doings ≡ ks → p.halted ≡ halted →
    node_end t r n p ≡ record { made = after_turns t r n ks; stopped = cond halted (Some n) None }
end-is t r n p ks halted e f =
    λ i. record { made = after_turns t r n (e i); stopped = cond (f i) (Some n) None }

module _ (t : Network) (lines : List Disturb) (r : Record) (w : Wires) (k : KnownTurns t lines r w) where
  open k use {alone, begun, in_known, after_begun}
  open alone use {xs, all, n, y, ys}
  open turns-made t lines r w alone use {turned, after, wires, links, did}

  is_record : IsRecord t after
  is_record =
      standing-is-a-record t lines after wires ys
      (standing-alone t lines r w alone)
      (all-begun t lines r w k)

  holds : AllByRecursion (BearsSent (sent_in_record t r n)) (deeds_in did)
  holds =
      subst (λ ks. AllByRecursion (BearsSent (sent_in_record t r n)) (deeds_in ks)) here
      (bears-sent t r (deeds_at after) n (world_start t) (deeds_at after n.0) others (is_record.histories.doable n.0)
      (is_record.histories.genuine n.0))
    where
      here : after.doings n.0 ≡ did
      here = ap (λ b. cond b did (r.doings n.0)) (self-number n.0)

      others : (u : NodeId) → is_world_channel t u n ≡ true → deeds_at after u.0 ≡ deeds_at r u.0
      others u joined = ap (λ b. deeds_in (cond b did (r.doings u.0))) (joins-nodes t u n joined).other

  -- Links

  -- what came out of a ring is a first part of what had been handed to it
  came_of : (u : NodeId) → is_world_channel t u n ≡ true → IsPrefix (received (links u.0).into) (gone_of (w u.0 n.0))
  came_of u joined =
      subst (λ (l : LinkState). IsPrefix (received l.into) (gone_of (w u.0 n.0)))
      (wires-here t lines r w k u.0)
      (after_begun u joined)

  -- in turns that came to their end all that stood was taken, and nothing since
  pub stood-at : (u : NodeId) (b : LinkState) → Contains (neighbours_of t n) u → (drained : IsDrained (w n.0 u.0) b)
      (g : HasMoved b (links u.0)) → TakesWhatStood (w n.0 u.0) b (links u.0) drained.0 g
  stood-at u b near drained g =
      takes-what-stood (w n.0 u.0) b (links u.0) drained.0 g (gone_of (w u.0 n.0)) drained
      (in_known u (channel-near t n u near)).whole (came_of u (channel-near t n u near))

  -- the links after turns that came to their end, between those before and those after all turns
  pub links-between : (mid : StationState) → AllZip IsDrained turned.old.links mid.links →
      AllZip HasMoved mid.links y.station.links →
      AllZip (λ (u : NodeId) (b : LinkState). IsDrained (w n.0 u.0) b × HasMoved b (links u.0)) (neighbours_of t n)
      mid.links
  links-between mid drained moved =
      zip-both (λ (u : NodeId) (b : LinkState). IsDrained (w n.0 u.0) b)
      (λ (u : NodeId) (b : LinkState). HasMoved b (links u.0)) (neighbours_of t n) mid.links
      (zip-from-map IsDrained (λ (u : NodeId). w n.0 u.0) (neighbours_of t n) mid.links
      (subst (λ ls. AllZip IsDrained ls mid.links) turned.was.links drained))
      (zip-onto-map HasMoved (λ (u : NodeId). links u.0) (neighbours_of t n) mid.links
      (subst (AllZip HasMoved mid.links) turned.links moved))

  stood_alone : (u : NodeId) (b : LinkState) → Contains (neighbours_of t n) u → HasMoved b (links u.0) →
      StoodAlone t r n u (w n.0 u.0) b
  stood_alone u b near g = record {
    peer = link-peer t lines r w n turned.old turned.was u near;
    stood = stands-there t r u n (w u.0 n.0) (w n.0 u.0) ring (in_known u joined).whole;
    sent =
        all-right (IsSentOf t u (deeds_at r u.0) n) ring.taken.taken ((w n.0 u.0).early ++ known_items
        (w n.0 u.0).into)
        (subst (AllByRecursion (IsSentOf t u (deeds_at r u.0) n))
        (sym (in_known u joined).whole ∙ ap (λ ps. ps ++ known_items (w n.0 u.0).into) ring.taken.came
        ∙ append_assoc ring.taken.taken (w n.0 u.0).early (known_items (w n.0 u.0).into))
        (gone-sent t lines r w xs all begun u n joined));
    begun = (
      g.came ++ came.0,
      sym (append_assoc (received b.into) g.came came.0) ∙ ap (λ ps. ps ++ came.0) (sym g.into) ∙ came.1
          ∙ sym (in_known u joined).whole,
    );
  }
    where
      joined : is_world_channel t u n ≡ true
      joined = channel-near t n u near

      ring : RingFacts t r u n (w u.0 n.0) (w n.0 u.0)
      ring = ring-facts t lines r w xs all u n joined

      came : IsPrefix (received (links u.0).into) (gone_of (w u.0 n.0))
      came = came_of u joined

  abbrev dues : List Popped
  dues = due_popped t r n (due_in (tick_if true (r.doings n.0)))

  -- The first turn is that of what stood there and of what was due.
  pub turn-exact : (halted : Bool) (mid : StationState) (one rest : List Doing)
      (f : OneTurn t n true (r.doings n.0) turned.old mid halted one) → AllZip HasMoved mid.links y.station.links →
      turned.done.added ≡ one ++ rest →
      turns_to t lines r n ≡ turn_to t turned.old.lines n true (r.doings n.0) f.due (all_of f.pops)
  turn-exact halted mid one rest f moved split = whole halted refl ∙ sym same
    where
      stood : AllZip (λ (u : NodeId) (b : LinkState). StoodAlone t r n u (w n.0 u.0) b) (neighbours_of t n) mid.links
      stood =
          zip-there (λ (u : NodeId) (b : LinkState). HasMoved b (links u.0))
          (λ (u : NodeId) (b : LinkState). StoodAlone t r n u (w n.0 u.0) b) (neighbours_of t n) stood_alone
          (neighbours_of t n) mid.links (λ u there. there)
          (zip-onto-map HasMoved (λ (u : NodeId). links u.0) (neighbours_of t n) mid.links
          (subst (AllZip HasMoved mid.links) turned.links moved))

      popped : ArePoppedOf t r n halted (all_of f.pops) (all_popped t r n)
      popped =
          all-popped t r n (w n.0) halted (neighbours_of t n) mid.links f.pops stood
          (subst (λ ls. HaveComeTo halted ls mid.links f.pops) turned.was.links f.are_pops)

      due_are : ArePopped t r n f.due dues
      due_are =
          subst (λ hs. ArePopped t r n f.due (due_popped t r n hs))
          (sym (due-is true (r.doings n.0) turned.old.held turned.was.station.stands.held))
          (due-exact t r n turned.old.held f.due
          (all-held t lines r w xs all begun n turned.old turned.was turned.old.held turned.was.station.stands.kept)
          f.are_due)

      turn : Progress
      turn = turn_to t turned.old.lines n true (r.doings n.0) f.due (all_of f.pops)

      exactly : Progress
      exactly =
          turn_to t lines n true (r.doings n.0) dues popped.first

      did_is : did ≡ turn.doings ++ rest
      did_is =
          turned.whole_is ∙ ap (λ ks. r.doings n.0 ++ ks) split ∙ sym (append_assoc (r.doings n.0) one rest)
          ∙ ap (λ ks. ks ++ rest) f.all

      same : turn ≡ exactly
      same =
          turn-same (sent_in_record t r n) t turned.old.lines n true (r.doings n.0) f.due (all_of f.pops)
          dues popped.first due_are.0 due_are.1 popped.are.0
          popped.are.1 (all-left (BearsSent (sent_in_record t r n)) (deeds_in turn.doings) (deeds_in rest)
          (subst (AllByRecursion (BearsSent (sent_in_record t r n))) (ap deeds_in did_is ∙ deeds-more turn.doings rest)
          holds))
          ∙ told-to t turned.old.lines lines n true (r.doings n.0)
          dues popped.first turned.was.told

      whole : (b : Bool) → halted ≡ b → turns_to t lines r n ≡ exactly
      whole true e =
          ap (turn_to t lines n true (r.doings n.0) dues)
          popped.all_is
          ∙ halts-are-last t lines n true (r.doings n.0)
          dues popped.first popped.more
          (ap (λ (p : Progress). p.halted) (sym same) ∙ f.halts ∙ e)
      whole false e =
          ap (turn_to t lines n true (r.doings n.0) dues)
          (popped.all_is ∙ ap (λ ps. popped.first ++ ps) (popped.whole e) ∙ append-nil popped.first)
