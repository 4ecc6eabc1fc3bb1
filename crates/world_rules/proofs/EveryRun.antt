-- Every run of a world, and what follows of it.
use Rattle.std.proofs.Common.{◌≡◌, ℕ, Bool, true, false, nat_eq, List, [], ◌∷◌, ◌++◌, length, drop, map, refl, sym, ap, ◌∙◌, subst, arith, append-nil, Contains}
use Rattle.ason_base.specs.{declared.commands.Event.Event, declared.messages.Msg.Msg, declared.network.TeRow.TeRow, Network.{Network, row_of}}
use Rattle.flood.specs.NetworkLaws as floods
use Rattle.flood.specs.NetworkLaws.{InEveryRun, LinksOfATopology}
use Rattle.hop_reliable.specs.Schedules.{BothWays, HandedUpInOrder, HopEnd, IsSettled, SettledIsDelivered, idle, under_way}
use Rattle.mesh_nodes.specs.Learnt.{NothingElseIsLearnt}
use Rattle.mesh_rules.specs.{declared.events.MeshEvent.MeshEvent, Machine.Mesh}
use Rattle.mesh_rules.specs.Events as mesh_runs
use Rattle.mesh_laws.specs.StateLaws.{EveryRunKeepsTheLaws}
use Rattle.world_rules.specs.{Worlds.{World, world_start}, WorldRuns.{IsWorldRun, world_after, world_step}, Images.{given_by, image, mesh_events}, WorldLaws.{ChannelsHaveTheFrames, EachIsFound, EveryImageHasTheLaws, EveryRunIsShown, IsWithoutMessages, JoinedKnowTheLinks, JoinedKnowTheSame, KnownIsTrue, QuietIsShown}}
use Rattle.world_rules.proofs.{Flooded.{AreFlooded, flooded-run, flooded-start, flooded-step}, Learnt.is-true, Reached.{AreReached, are-reached-run, are-reached-start, are-reached-step}, PacketsShown.ShowsRun, Shown.shows-step, Ways.way-is}

-- one run of the mesh after another
shows_both : (t : Network) (es fs : List MeshEvent) (s s' s'' : Mesh) → ShowsRun t s es s' → ShowsRun t s' fs s'' →
    ShowsRun t s (es ++ fs) s''
shows_both t [] fs s s' s'' first second = subst (λ z. ShowsRun t z fs s'') (sym first.leads) second
shows_both t (e ∷ es) fs s s' s'' first second =
    let rest = shows_both t es fs (mesh_runs.step t s e) s' s''
    (record { run = first.run.1; leads = first.leads }) second in
    record { run = (first.run.0, rest.run); leads = rest.leads }

-- What the laws of floods, and of what nodes learn, say of nodes that a walk joins
pub record FloodLaws : Type 0 where
  pub links : LinksOfATopology
  pub same : InEveryRun floods.JoinedNodesKnowSame
  pub joined : InEveryRun floods.JoinedNodesKnowLinks
  pub others : NothingElseIsLearnt

shows_run : HandedUpInOrder → NothingElseIsLearnt → (t : Network) → EachIsFound t → (events : List Event) (w : World) →
    IsWorldRun t w events → AreFlooded t w → AreReached w →
    ShowsRun t (image w) (mesh_events t w events) (image (world_after t w events))
shows_run law others t each [] w run f r = record { run = tt; leads = refl }
shows_run law others t each (e ∷ es) w run f r =
    shows_both t (given_by w e) (mesh_events t (world_step t w e) es) (image w) (image (world_step t w e))
    (image (world_after t w (e ∷ es)))
    (shows-step law t each w e run.0 (is-true t w f) r)
    (shows_run law others t each es (world_step t w e) run.1 (flooded-step others t w e f)
    (are-reached-step t w e run.0 r))

pub every-run-is-shown : HandedUpInOrder → NothingElseIsLearnt → EveryRunIsShown
every-run-is-shown law others t events each run =
    let f = shows_run law others t each events (world_start t) run (flooded-start t) (are-reached-start t) in
    record { run = f.run; leads = f.leads }

pub channels-have-the-frames : ChannelsHaveTheFrames
channels-have-the-frames t events run u d =
    (are-reached-run t events (world_start t) run (are-reached-start t)).channels u d

pub every-image-has-the-laws : HandedUpInOrder → NothingElseIsLearnt → EveryRunKeepsTheLaws →
    EveryImageHasTheLaws
every-image-has-the-laws law others laws t events each run =
    laws t (mesh_events t (world_start t) events) (every-run-is-shown law others t events each run).run

-- Quiet

settled_way : (x y : HopEnd) → IsSettled x y → x.hop.unacked ≡ [] → under_way x y ≡ []
settled_way x y settled none = way-is x y [] (append-nil y.up ∙ settled none)

quiet_way : SettledIsDelivered → (w : World) → AreReached w → IsWithoutMessages w → (u d : ℕ) →
    under_way (w.ends u d) (w.ends d u) ≡ []
quiet_way law w r quiet u d = by_test (nat_eq u d) refl
  where
    by_test : (b : Bool) → nat_eq u d ≡ b → under_way (w.ends u d) (w.ends d u) ≡ []
    by_test false e =
        let f = r.apart u d e in
        settled_way (w.ends u d) (w.ends d u) (subst (BothWays IsSettled) f.leads (law f.schedule)).0 (quiet.hops u d)
    by_test true e =
        let is : u ≡ d = grind arith in
        let f = r.alone u in
        let none : under_way (w.ends u u) idle ≡ [] =
        settled_way (w.ends u u) idle (subst (BothWays IsSettled) f.reached.leads (law f.reached.schedule)).0
        (quiet.hops u u)
        in
        subst (λ n. under_way (w.ends u n) (w.ends n u) ≡ []) is
        (ap (λ (ms : List Msg). drop (length ms) (w.ends u u).given) f.up ∙ none)

pub quiet-is-shown : SettledIsDelivered → QuietIsShown
quiet-is-shown law t events run quiet =
    let reached = are-reached-run t events (world_start t) run (are-reached-start t) in
    record { desks = quiet.desks; mail = λ u d. quiet_way law (world_after t (world_start t) events) reached quiet u d }

-- What nodes know

flooded-after : NothingElseIsLearnt → (t : Network) (events : List Event) →
    AreFlooded t (world_after t (world_start t) events)
flooded-after others t events = flooded-run others t events (world_start t) (flooded-start t)

pub known-is-true : NothingElseIsLearnt → KnownIsTrue
known-is-true others t events run n row there =
    let f = flooded-after others t events in
    (is-true t (world_after t (world_start t) events) f).truth n.0 row
    (subst (λ rows. Contains rows row) (f.known n) there)

pub joined-know-the-same : FloodLaws → JoinedKnowTheSame
joined-know-the-same laws t events valid run quiet a b joined row =
    let f = flooded-after laws.others t events in
    let law = subst (floods.JoinedNodesKnowSame (map row_of t.links)) f.leads
    (laws.same (map row_of t.links) (laws.links t valid) f.happened) in
    let both = law quiet.floods a b joined row in
    let has : List TeRow → Type 0 = λ rows. Contains rows row in (
      λ h. subst has (sym (f.known b)) (both.0 (subst has (f.known a) h)),
      λ h. subst has (sym (f.known a)) (both.1 (subst has (f.known b) h)),
    )

pub joined-know-the-links : FloodLaws → JoinedKnowTheLinks
joined-know-the-links laws t events valid run quiet a b joined row there end =
    let f = flooded-after laws.others t events in
    let law = subst (floods.JoinedNodesKnowLinks (map row_of t.links)) f.leads
    (laws.joined (map row_of t.links) (laws.links t valid) f.happened) in
    subst (λ rows. Contains rows row) (sym (f.known b)) (law quiet.floods a b joined row there end)
