-- The world of a record goes on with a post, and with noise.
use Rattle.std.proofs.Common.{◌≡◌, ℕ, Bool, true, false, cond, nat_eq, List, [], ◌∷◌, ◌++◌, refl, sym, ap, ◌∙◌, subst}
use Rattle.std.specs.Prelude.{◌+◌}
use Rattle.ason_base.specs.{declared.ids.NodeId.NodeId, declared.commands.Event.TheVariants.Post, Network.Network}
use Rattle.ason_base.proofs.{Numbers.self-number, Bridges.same_node}
use Rattle.world_rules.specs.{WorldRuns.world_step, Worlds.{World, world_start, with_event}}
use Rattle.world_merge.specs.{Deeds.{Deed, Heard, Posted, alone, done}, Histories.at, Merges.Agrees}
use Rattle.world_merge.proofs.{Agreeing.{agree, agrees-self, same-posted}, MergedRuns.same-joined, Splitting.alone-more}
use Rattle.round_rules.specs.{Doings.{Did, Doing, deeds_in}, Functions.clock_of, Records.{Record, deeds_at, world_of}, Commands.{NoiseIsAStep, PostsAreSteps, greatest_clock, noised, record_posted}}
use Rattle.round_rules.proofs.Desks.{deeds-more}

-- one deed more of a node that was alone
pub alone-did : (t : Network) (n : NodeId) (ds : List Doing) (d : Deed) →
    alone t n (deeds_in (ds ++ Did d ∷ [])) ≡ done t n (alone t n (deeds_in ds)) d
alone-did t n ds d = ap (alone t n) (deeds-more ds (Did d ∷ [])) ∙ alone-more t n (world_start t) (deeds_in ds) (d ∷ [])

-- A post

pub posts-are-steps : PostsAreSteps
posts-are-steps t c r same =
    same-joined (λ n. alone t (at n) (deeds_at (record_posted t c r) n)) (λ n. world_step t (world_of t r) (Post c))
    parts
  where
    -- what the node made alone is its part of the world
    before : (n : ℕ) → Agrees n (alone t (at n) (deeds_at r n)) (world_of t r)
    before n =
        agree n (alone t (at n) (deeds_at r n)) (world_of t r) refl refl (λ d. refl) refl (λ d. refl) refl
        (same n 0).posted (same n 0).failed

    parts : (n : ℕ) → Agrees n (alone t (at n) (deeds_at (record_posted t c r) n)) (world_step t (world_of t r) (Post c))
    parts n =
        subst (λ (v : World). Agrees n v (world_step t (world_of t r) (Post c)))
        (sym (alone-did t (at n) (r.doings n) (Posted (greatest_clock t r + 1) c)))
        (same-posted t n c (alone t (at n) (deeds_at r n)) (world_of t r) (before n))

-- Noise

pub noise-is-a-step : NoiseIsAStep
noise-is-a-step t u d bytes r =
    same-joined (λ n. alone t (at n) (deeds_at after n)) (λ n. with_event (alone t (at n) (deeds_at r n)) d.0) parts
  where
    did : List Doing
    did = r.doings d.0 ++ Did (Heard (clock_of (r.doings d.0) + 1) u bytes) ∷ []

    after : Record
    after = noised u d bytes r

    Goes : NodeId → Type 0
    Goes n = Agrees n.0 (alone t n (deeds_at after n.0)) (with_event (alone t n (deeds_at r n.0)) d.0)

    here : Goes d
    here =
        subst (λ (v : World). Agrees d.0 v (with_event (alone t d (deeds_at r d.0)) d.0))
        (sym (ap (λ b. alone t d (deeds_in (cond b did (r.doings d.0)))) (self-number d.0)
        ∙ alone-did t d (r.doings d.0) (Heard (clock_of (r.doings d.0) + 1) u bytes)))
        (agrees-self d.0 (with_event (alone t d (deeds_at r d.0)) d.0))

    elsewhere : (n : ℕ) → nat_eq n d.0 ≡ false → Goes (at n)
    elsewhere n e =
        let v : World = alone t (at n) (deeds_at r n) in
        subst (λ (w : World). Agrees n w (with_event v d.0))
        (sym (ap (λ b. alone t (at n) (deeds_in (cond b did (r.doings n)))) e)) (agree n v (with_event v d.0) refl refl
        (λ b. refl) refl (λ b. refl) (sym (ap (λ b. cond b (v.made n + 1) (v.made n)) e)) refl refl)

    parts : (n : ℕ) → Goes (at n)
    parts n = go (nat_eq n d.0) refl
      where
        go : (b : Bool) → nat_eq n d.0 ≡ b → Goes (at n)
        go true e = subst Goes (sym (same_node (at n) d e)) here
        go false e = elsewhere n e
