-- What is said of a hop beside its row: labels, sets and routes; and what each small change of a hop leaves of it.
-- u is the leg at the upstream node, d the one at the downstream node.
use Rattle.std.proofs.Common.{◌≡◌, ℕ, true, false, List, [], ◌∷◌, ◌++◌, refl, ◌∙◌, inl, inr}
use Rattle.std.specs.Prelude.{Option, Some, None}
use Rattle.ason_base.specs.{Labels.has, declared.calls.Phase.TheVariants.Asked, declared.messages.Msg.Msg, declared.messages.Msg.TheVariants.{Path, Resv, PathTear, PathErr, Notify}, declared.tables.Leg.Leg}
use Rattle.lsp_laws.specs.HopShapes.{LegKind, NoLeg, AskedLeg, HasLetGo, leg_kind}
use Rattle.lsp_laws.proofs.{hops.Plans.Plan, hops.RowStates.{is_reserved, let_go_free, let_go_not_asked}, hops.WayBack.{back_kept, let_go_back, no_upstream, reserved_open}, hops.Purposes.{UpMsgFits, BackMeets, DownFits, PathHasSet, HasUpstream, IsPending, OfferSent, Purpose, Rest, SentOn, SetSent, UpFits, back_in_of, each-any, each-append, each-map, has_path, in_label_of, is_path, out_label_of, purpose_role}, hops.IdleHops.{meets_none, path-append, path-later}}

not_asked : (k : LegKind) → is_reserved k ≡ true → k ≡ AskedLeg → ⊥
not_asked k reserved asked = let never : false ≡ true = rw asked at reserved in cc

not_gone : (k : LegKind) → is_reserved k ≡ true → k ≡ NoLeg → ⊥
not_gone k reserved gone = let never : false ≡ true = rw gone at reserved in cc

never_pending : (k : LegKind) (down : List Msg) → is_reserved k ≡ true → IsPending k down → ⊥
never_pending k down reserved (inl first) = not_gone k reserved first.0
never_pending k down reserved (inr asked) = not_asked k reserved asked

offer_idle : (u d : Option Leg) → (leg_kind d ≡ AskedLeg → ⊥) → OfferSent u d
offer_idle None d never = tt
offer_idle (Some g) None never = tt
offer_idle (Some g) (Some h) never = λ asked. absurd (never (rw asked refl))

answer_idle : (u d : Option Leg) (m : Msg) → is_reserved (leg_kind d) ≡ false → UpMsgFits u d m
answer_idle u d (Path l e k route set up r) never = tt
answer_idle u d (Resv l e k x) never = λ reserved. absurd (cc (never, reserved))
answer_idle u d (PathTear l e k) never = tt
answer_idle u d (PathErr l e at gone code) never = tt
answer_idle u d (Notify l e at k code) never = tt

answer_downstream : (u : Option Leg) (g g' : Leg) (m : Msg) → g'.in_label ≡ g.in_label →
    is_reserved (leg_kind (Some g)) ≡ true →
    UpMsgFits u (Some g) m → UpMsgFits u (Some g') m
answer_downstream u g g' (Path l e k route set up r) is was h = tt
answer_downstream u g g' (Resv l e k x) is was h = λ reserved. (rw is (h was).0, (h was).1)
answer_downstream u g g' (PathTear l e k) is was h = tt
answer_downstream u g g' (PathErr l e at gone code) is was h = tt
answer_downstream u g g' (Notify l e at k code) is was h = tt

answer_upstream : (g g' : Leg) (d : Option Leg) (m : Msg) → g'.sent ≡ g.sent → UpMsgFits (Some g) d m →
    UpMsgFits (Some g') d m
answer_upstream g g' d (Path l e k route set up r) is h = tt
answer_upstream g g' d (Resv l e k x) is h = λ reserved. ((h reserved).0, rw is (h reserved).1)
answer_upstream g g' d (PathTear l e k) is h = tt
answer_upstream g g' d (PathErr l e at gone code) is h = tt
answer_upstream g g' d (Notify l e at k code) is h = tt

answer_gone : (g : Leg) (d : Option Leg) (m : Msg) → UpMsgFits (Some g) d m → UpMsgFits None d m
answer_gone g d (Path l e k route set up r) h = tt
answer_gone g d (Resv l e k x) h = λ reserved. ((h reserved).0, tt)
answer_gone g d (PathTear l e k) h = tt
answer_gone g d (PathErr l e at gone code) h = tt
answer_gone g d (Notify l e at k code) h = tt

offer_upstream : (g g' : Leg) (d : Option Leg) → g'.sent ≡ g.sent → OfferSent (Some g) d → OfferSent (Some g') d
offer_upstream g g' None is h = tt
offer_upstream g g' (Some d) is h = λ asked x offered. rw is (h asked x offered)

set_upstream : (g g' : Leg) (m : Msg) → g'.sent ≡ g.sent → SetSent (Some g) m → SetSent (Some g') m
set_upstream g g' (Path l e k route set up r) is h = rw is h
set_upstream g g' (Resv l e k x) is h = tt
set_upstream g g' (PathTear l e k) is h = tt
set_upstream g g' (PathErr l e at gone code) is h = tt
set_upstream g g' (Notify l e at k code) is h = tt

-- The eleven changes

module _ (q : Purpose) (p : Plan) (i : ℕ) where
  -- 1. the first message down is taken
  pub down_taken : (u d : Option Leg) (m : Msg) (down up : List Msg) → Rest q p i u d (m ∷ down) up →
      Rest q p i u d down up
  down_taken u d m down up h = record {
    going_down = h.going_down.1;
    going_up = h.going_up;
    labels = h.labels;
    answers = h.answers;
    offer = h.offer;
    sets = h.sets.1;
    bare = λ pending. h.bare (elim pending [
      | inl first ↦ inl (first.0, path-later m down first.1)
      | inr asked ↦ inr asked
    ]);
    back = h.back;
    upstream = h.upstream.1;
  }

  -- 2. the first message up is taken
  pub up_taken : (u d : Option Leg) (m : Msg) (down up : List Msg) → Rest q p i u d down (m ∷ up) →
      Rest q p i u d down up
  up_taken u d m down up h = record {
    going_down = h.going_down;
    going_up = h.going_up.1;
    labels = h.labels;
    answers = h.answers.1;
    offer = h.offer;
    sets = h.sets;
    bare = h.bare;
    back = h.back;
    upstream = h.upstream;
  }

  -- 3. a message is sent down
  pub down_sent : (u d : Option Leg) (m : Msg) (down up : List Msg) → DownFits q p i m → SetSent u m →
      HasUpstream (back_in_of u) m → (leg_kind d ≡ NoLeg → is_path m ≡ false) → Rest q p i u d down up →
      Rest q p i u d (down ++ m ∷ []) up
  down_sent u d m down up fits set label later h = record {
    going_down = each-append (DownFits q p i) down _ h.going_down (fits, tt);
    going_up = h.going_up;
    labels = h.labels;
    answers = h.answers;
    offer = h.offer;
    sets = each-append (SetSent u) down _ h.sets (set, tt);
    bare = λ pending. h.bare (elim pending [
      | inl first ↦ inl (first.0, path-append down m (later first.0) first.1)
      | inr asked ↦ inr asked
    ]);
    back = h.back;
    upstream = each-append (HasUpstream (back_in_of u)) down _ h.upstream (label, tt);
  }

  -- 4. a message is sent up
  pub up_sent : (u d : Option Leg) (m : Msg) (down up : List Msg) → UpFits p i m → UpMsgFits u d m →
      Rest q p i u d down up → Rest q p i u d down (up ++ m ∷ [])
  up_sent u d m down up fits answer h = record {
    going_down = h.going_down;
    going_up = each-append (UpFits p i) up _ h.going_up (fits, tt);
    labels = h.labels;
    answers = each-append (UpMsgFits u d) up _ h.answers (answer, tt);
    offer = h.offer;
    sets = h.sets;
    bare = h.bare;
    back = h.back;
    upstream = h.upstream;
  }

  -- 5. d keeps its label: it is Held, Armed or Live before and after
  pub downstream_keeps : (u : Option Leg) (g g' : Leg) (down up : List Msg) → g'.in_label ≡ g.in_label →
      g'.back_out ≡ g.back_out → is_reserved (leg_kind (Some g)) ≡ true → is_reserved (leg_kind (Some g')) ≡ true →
      Rest q p i u (Some g) down up → Rest q p i u (Some g') down up
  downstream_keeps u g g' down up is back was reserved h = record {
    going_down = h.going_down;
    going_up = h.going_up;
    labels = rw is h.labels;
    answers =
        each-map (UpMsgFits u (Some g)) (UpMsgFits u (Some g')) up (λ m. answer_downstream u g g' m is was) h.answers;
    offer = offer_idle u (Some g') (not_asked (leg_kind (Some g')) reserved);
    sets = h.sets;
    bare = λ pending. absurd (never_pending (leg_kind (Some g')) down reserved pending);
    back = λ stands. back ∙ h.back (reserved_open g.phase was);
    upstream = h.upstream;
  }

  -- 6. d goes or closes, and no Path is on the hop
  pub downstream_lets_go : (u d d' : Option Leg) (down up : List Msg) → HasLetGo (purpose_role q) (leg_kind d') →
      in_label_of d' ≡ None → has_path down ≡ false → Rest q p i u d down up → Rest q p i u d' down up
  downstream_lets_go u d d' down up gone none no_path h = record {
    going_down = h.going_down;
    going_up = h.going_up;
    labels = rw none (meets_none (out_label_of u));
    answers = each-any (UpMsgFits u d') up (λ m. answer_idle u d' m (let_go_free (purpose_role q) (leg_kind d') gone));
    offer = offer_idle u d' (let_go_not_asked (purpose_role q) (leg_kind d') gone);
    sets = h.sets;
    bare = λ pending. elim pending [
      | inl first ↦ (let path = first.1 in absurd (cc (no_path, path)))
      | inr asked ↦ absurd (let_go_not_asked (purpose_role q) (leg_kind d') gone asked)
    ];
    back = let_go_back (purpose_role q) u d' gone;
    upstream = h.upstream;
  }

  -- 7. d takes its label, while u has none, no Path is on the hop and no answer is under way
  pub downstream_takes : (u d : Option Leg) (g' : Leg) (down : List Msg) → out_label_of u ≡ None →
      has_path down ≡ false → is_reserved (leg_kind (Some g')) ≡ true → BackMeets u (Some g') → Rest q p i u d down [] →
      Rest q p i u (Some g') down []
  downstream_takes u d g' down bare no_path reserved back h = record {
    going_down = h.going_down;
    going_up = tt;
    labels = rw bare tt;
    answers = tt;
    offer = offer_idle u (Some g') (not_asked (leg_kind (Some g')) reserved);
    sets = h.sets;
    bare = λ pending. bare;
    back = back;
    upstream = h.upstream;
  }

  -- 8. d is Asked, with labels that u sent on
  pub downstream_asked : (u d : Option Leg) (g' : Leg) (down : List Msg) → out_label_of u ≡ None →
      has_path down ≡ false → OfferSent u (Some g') → BackMeets u (Some g') →
      Rest q p i u d down [] → Rest q p i u (Some g') down []
  downstream_asked u d g' down bare no_path offer back h = record {
    going_down = h.going_down;
    going_up = tt;
    labels = rw bare tt;
    answers = tt;
    offer = offer;
    sets = h.sets;
    bare = λ pending. bare;
    back = back;
    upstream = h.upstream;
  }

  -- 9. u keeps its label out and the set that it sent on: it is Armed, Held or Live, or closes
  pub upstream_keeps : (g g' : Leg) (d : Option Leg) (down up : List Msg) → g'.out_label ≡ g.out_label →
      g'.sent ≡ g.sent → g'.back_in ≡ g.back_in →
      Rest q p i (Some g) d down up → Rest q p i (Some g') d down up
  upstream_keeps g g' d down up out sent back h = record {
    going_down = h.going_down;
    going_up = h.going_up;
    labels = rw out h.labels;
    answers =
        each-map (UpMsgFits (Some g) d) (UpMsgFits (Some g') d) up (λ m. answer_upstream g g' d m sent) h.answers;
    offer = offer_upstream g g' d sent h.offer;
    sets = each-map (SetSent (Some g)) (SetSent (Some g')) down (λ m. set_upstream g g' m sent) h.sets;
    bare = λ pending. still (h.bare pending);
    back = back_kept g g' d back h.back;
    upstream = rw back h.upstream;
  }
    where
      still : g.out_label ≡ None → g'.out_label ≡ None
      still none = rw out none

  -- 10. u takes the label of a Resv, which is d's
  pub upstream_connects : (g g' : Leg) (d : Option Leg) (down up : List Msg) (x : ℕ) → g'.out_label ≡ Some x →
      in_label_of d ≡ Some x → g'.sent ≡ g.sent → g'.back_in ≡ g.back_in → is_reserved (leg_kind d) ≡ true →
      Rest q p i (Some g) d down up → Rest q p i (Some g') d down up
  upstream_connects g g' d down up x out into sent back reserved h = record {
    going_down = h.going_down;
    going_up = h.going_up;
    labels = rw (out, into) refl;
    answers =
        each-map (UpMsgFits (Some g) d) (UpMsgFits (Some g') d) up (λ m. answer_upstream g g' d m sent) h.answers;
    offer = offer_upstream g g' d sent h.offer;
    sets = each-map (SetSent (Some g)) (SetSent (Some g')) down (λ m. set_upstream g g' m sent) h.sets;
    bare = λ pending. absurd (never_pending (leg_kind d) down reserved pending);
    back = back_kept g g' d back h.back;
    upstream = rw back h.upstream;
  }

  -- 11. u goes, where d has let go and no Path is on the hop
  pub upstream_goes : (g : Leg) (d : Option Leg) (down up : List Msg) → HasLetGo (purpose_role q) (leg_kind d) →
      has_path down ≡ false → Rest q p i (Some g) d down up → Rest q p i None d down up
  upstream_goes g d down up gone no_path h = record {
    going_down = h.going_down;
    going_up = h.going_up;
    labels = tt;
    answers = each-map (UpMsgFits (Some g) d) (UpMsgFits None d) up (answer_gone g d) h.answers;
    offer = tt;
    sets = each-any (SetSent None) down (λ m. tt);
    bare = λ pending. refl;
    back = let_go_back (purpose_role q) None d gone;
    upstream = no_upstream g.back_in None down no_path h.upstream;
  }

-- What was sent on

-- the labels that a Path offers were sent on, so those that are taken of them were
pub offer_path : (u : Option Leg) (g : Leg) (set : List ℕ) (m : Msg) →
    ((sent : List ℕ) → PathHasSet sent m → set ≡ sent) →
    SetSent u m → ((x : ℕ) → has g.offered x ≡ true → has set x ≡ true) → OfferSent u (Some g)
offer_path None g set m is sent within = tt
offer_path (Some v) g set m is sent within = λ asked x offered. rw (← is v.sent sent) (within x offered)

pub sent_path : (u : Option Leg) (set : List ℕ) (x : ℕ) (m : Msg) → ((sent : List ℕ) → PathHasSet sent m → set ≡ sent) →
    SetSent u m → has set x ≡ true → SentOn u x
sent_path None set x m is sent here = tt
sent_path (Some v) set x m is sent here = rw (← is v.sent sent) here

pub sent_offer : (u : Option Leg) (g : Leg) (x : ℕ) → g.phase ≡ Asked → OfferSent u (Some g) →
    has g.offered x ≡ true → SentOn u x
sent_offer None g x asked offer here = tt
sent_offer (Some v) g x asked offer here = offer asked x here
