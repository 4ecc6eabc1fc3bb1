-- Changes of legs one after the other: what is held fits the legs, but for the label that the last change takes newly.
use Rattle.std.proofs.{Common.{◌≡◌, ℕ, Bool, true, false, cond, not, List, [], inl, inr, refl, sym, ap, subst, ◌∙◌}, Math.Bool.and-false}
use Rattle.std.specs.Prelude.{◌⊎◌, ◌&&◌, Option, Some, None}
use Rattle.ason_base.specs.{Lsps.same_lsp, Risks.has_risk, declared.ids.Fibre.Fibre, declared.ids.Lsp.Lsp, declared.risks.Risk.Risk, declared.tables.Leg.Leg}
use Rattle.ason_base.proofs.Bools.{and-left, and-right}
use Rattle.link_owner.specs.Owners.{OwnerState}
use Rattle.share_check.specs.Guards.{Guard, is_risk_guarded}
use Rattle.mesh_rules.specs.{Legs.{find_leg, is_work, takes, with_leg, without_leg}, LocalNodes.LocalNode}
use Rattle.mesh_nodes.proofs.LegList.{find-with_leg, find-without_leg, found-lsp, same_lsp-eq}
use Rattle.leg_table.specs.{declared.labels.TakenLabel.TakenLabel, LegClaims.{TakesNoMore, TakesOneMore, Took, is_this, takes_of}}
use Rattle.leg_table.proofs.OwnerFibres.{claimed-comes}
use Rattle.leg_carrying.proofs.{GivenLegs.this-to, GivenUp.less, HeldLabels.held-here, NewLabels.{new-fresh, new-takes, one-new, took-not}}
use Rattle.leg_carrying.specs.LegHolds.{AreHeld, MayGiveUp, MayGiveUpAll, TakeNoMore, guards_held, held_by, held_of, hold_of, is_lost, is_taken, new_label, holds_with_label, with_new}

-- What is held after one change

-- a label that is lost isn't held
lost-unheld : (f : Fibre) (x : ℕ) (o : Option Leg) → cond ((takes_of f x o && true) && true) None (held_by f x o) ≡ None
lost-unheld f x None = refl
lost-unheld f x (Some g) = one (takes f x g)
  where
    one : (b : Bool) → cond ((b && true) && true) None (cond b (Some (hold_of g)) None) ≡ None
    one true = refl
    one false = refl

-- a leg that goes holds nothing
pub gone-held : (l : Lsp) (legs : List Leg) (f : Fibre) (x : ℕ) (m : Lsp) →
    less l (is_lost (find_leg l legs) None) (held_of legs) f x m ≡ held_of (without_leg l legs) f x m
gone-held l legs f x m = go (same_lsp l m) refl ∙ ap (held_by f x) (sym (find-without_leg l legs m))
  where
    go : (b : Bool) → same_lsp l m ≡ b →
        cond (is_lost (find_leg l legs) None f x && b) None (held_of legs f x m) ≡
        held_by f x (cond b None (find_leg m legs))
    go true e =
        subst (λ k. cond (is_lost (find_leg l legs) None f x && true) None (held_of legs f x k) ≡ None)
        (same_lsp-eq l m e) (lost-unheld f x (find_leg l legs))
    go false e = ap (λ b. cond b None (held_of legs f x m)) (and-false (is_lost (find_leg l legs) None f x))

-- one that is put holds what its LSP's leg held, where it took all that it takes
pub put-held : (g : Leg) (legs : List Leg) (f : Fibre) (x : ℕ) (m : Lsp) → (takes f x g ≡ true → Took legs g f x) →
    less g.lsp (is_lost (find_leg g.lsp legs) (Some g)) (held_of legs) f x m ≡ held_of (with_leg g legs) f x m
put-held g legs f x m took = go (same_lsp g.lsp m) refl ∙ ap (held_by f x) (sym (find-with_leg g legs m))
  where
    same : (b : Bool) → takes f x g ≡ b →
        cond ((takes_of f x (find_leg g.lsp legs) && not b) && true) None (held_of legs f x g.lsp) ≡
        cond b (Some (hold_of g)) None
    same true t =
        let old = took t in
        let before : held_of legs f x g.lsp ≡ Some (hold_of old.before) =
        ap (held_by f x) old.there ∙ held-here f x old.before old.took in
        let hold : hold_of old.before ≡ hold_of g = λ i. record { role = old.role i; risks = old.risks i } in
        ap (λ b. cond b None (held_of legs f x g.lsp)) (none (takes_of f x (find_leg g.lsp legs)))
        ∙ before ∙ ap Some hold
      where
        none : (b : Bool) → ((b && false) && true) ≡ false
        none true = refl
        none false = refl
    same false t = lost-unheld f x (find_leg g.lsp legs)

    go : (b : Bool) → same_lsp g.lsp m ≡ b →
        cond (is_lost (find_leg g.lsp legs) (Some g) f x && b) None (held_of legs f x m) ≡
        held_by f x (cond b (Some g) (find_leg m legs))
    go true e =
        subst (λ k. cond (is_lost (find_leg g.lsp legs) (Some g) f x && true) None (held_of legs f x k) ≡
        held_by f x (Some g)) (same_lsp-eq g.lsp m e) (same (takes f x g) refl)
    go false e = ap (λ b. cond b None (held_of legs f x m)) (and-false (is_lost (find_leg g.lsp legs) (Some g) f x))

-- The new label

-- a label that an LSP's leg lost or took isn't the new one
apart-new : (read legs : List Leg) (h : Leg) (t : TakenLabel) (f : Fibre) (x : ℕ) (l : Lsp) → TakeNoMore read legs →
    new_label (find_leg h.lsp read) h ≡ Some t → (is_this t f x && same_lsp h.lsp l) ≡ true →
    takes_of f x (find_leg l legs) ≡ true → ⊥
apart-new read legs h t f x l less new own took = go (find_leg l legs) refl took
  where
    fresh : takes_of f x (find_leg h.lsp read) ≡ false
    fresh =
        this-to (λ f x. takes_of f x (find_leg h.lsp read) ≡ false) t f x
        (and-left (is_this t f x) (same_lsp h.lsp l) own) (new-fresh (find_leg h.lsp read) h t new)

    go : (o : Option Leg) → find_leg l legs ≡ o → takes_of f x o ≡ true → ⊥
    go None found e = cc e
    go (Some k) found e =
        let lsp : h.lsp ≡ k.lsp =
        same_lsp-eq h.lsp l (and-right (is_this t f x) (same_lsp h.lsp l) own) ∙ sym (found-lsp l legs k found) in
        took-not read k f x (less l k found f x e)
        (subst (λ n. takes_of f x (find_leg n read) ≡ false) lsp fresh)

-- what the legs hold is held, beside the new label
pub old-held : (read legs : List Leg) (last : Option Leg) (l : Lsp) (g : Leg) (f : Fibre) (x : ℕ) →
    TakeNoMore read legs → find_leg l legs ≡ Some g → takes f x g ≡ true →
    with_new read last (held_of legs) f x l ≡ Some (hold_of g)
old-held read legs None l g f x less found t = ap (held_by f x) found ∙ held-here f x g t
old-held read legs (Some h) l g f x less found t = go (new_label (find_leg h.lsp read) h) refl
  where
    was : held_of legs f x l ≡ Some (hold_of g)
    was = ap (held_by f x) found ∙ held-here f x g t

    go : (o : Option TakenLabel) → new_label (find_leg h.lsp read) h ≡ o →
        holds_with_label h o (held_of legs) f x l ≡ Some (hold_of g)
    go None e = was
    go (Some n) new = test (is_this n f x && same_lsp h.lsp l) refl
      where
        test : (b : Bool) → (is_this n f x && same_lsp h.lsp l) ≡ b →
            cond b (Some (hold_of h)) (held_of legs f x l) ≡ Some (hold_of g)
        test true own =
            absurd (apart-new read legs h n f x l less new own (ap (takes_of f x) found ∙ t))
        test false own = was

-- so it may be given up
pub may-give_up : (read legs : List Leg) (last : Option Leg) (o : OwnerState) (s : List Guard) (l : Lsp) →
    TakeNoMore read legs → AreHeld (with_new read last (held_of legs)) o s → MayGiveUpAll (find_leg l legs) o s
may-give_up read legs last o s l less held = go (find_leg l legs) refl
  where
    none : (g : Leg) (q : Risk) (b : Bool) → b ≡ true → has_risk (cond b [] g.risks) q ≡ false
    none g q true e = refl
    none g q false e = absurd (cc e)

    one : (g : Leg) → find_leg l legs ≡ Some g → (f : Fibre) (x : ℕ) → takes f x g ≡ true → MayGiveUp g o s f x
    one g found f x t =
        let here = old-held read legs last l g f x less found t in
        let lsp : l ≡ g.lsp = sym (found-lsp l legs g found) in
        record {
          comes_in = claimed-comes o.claims f x l (held.claims.all f x l (hold_of g) here);
          works = λ work q.
              subst (λ k. is_risk_guarded s f x k q ≡ false) lsp
              (held.guards f x l q ∙ ap (guards_held q) here ∙ none g q (is_work g.role) work);
        }

    go : (k : Option Leg) → find_leg l legs ≡ k → MayGiveUpAll k o s
    go None found = tt
    go (Some g) found = one g found

-- labels that an LSP gives up are taken from what is held with the new label, as from what the legs hold
pub less-new : (read legs after : List Leg) (last : Option Leg) (l : Lsp) (after_one : Option Leg) → TakeNoMore read legs →
    ((f : Fibre) (x : ℕ) (m : Lsp) →
    less l (is_lost (find_leg l legs) after_one) (held_of legs) f x m ≡ held_of after f x m) →
    (f : Fibre) (x : ℕ) (m : Lsp) →
    less l (is_lost (find_leg l legs) after_one) (with_new read last (held_of legs)) f x m ≡
    with_new read last (held_of after) f x m
less-new read legs after None l after_one fewer same f x m = same f x m
less-new read legs after (Some h) l after_one fewer same f x m = go (new_label (find_leg h.lsp read) h) refl
  where
    lost : Bool
    lost = is_lost (find_leg l legs) after_one f x && same_lsp l m

    kept : (n : TakenLabel) → new_label (find_leg h.lsp read) h ≡ Some n →
        (is_this n f x && same_lsp h.lsp m) ≡ true → lost ≡ false
    kept n new own = test lost refl
      where
        test : (b : Bool) → lost ≡ b → b ≡ false
        test true e =
            let is : l ≡ m = same_lsp-eq l m (and-right (is_lost (find_leg l legs) after_one f x) (same_lsp l m) e) in
            let took : takes_of f x (find_leg l legs) ≡ true =
            and-left (takes_of f x (find_leg l legs)) (not (takes_of f x after_one))
            (and-left (is_lost (find_leg l legs) after_one f x) (same_lsp l m) e) in
            absurd (apart-new read legs h n f x m fewer new own (subst (λ k. takes_of f x (find_leg k legs) ≡ true) is took))
        test false e = refl

    go : (o : Option TakenLabel) → new_label (find_leg h.lsp read) h ≡ o →
        cond lost None (holds_with_label h o (held_of legs) f x m) ≡ holds_with_label h o (held_of after) f x m
    go None new = same f x m
    go (Some n) new = test (is_this n f x && same_lsp h.lsp m) refl
      where
        test : (b : Bool) → (is_this n f x && same_lsp h.lsp m) ≡ b →
            cond lost None (cond b (Some (hold_of h)) (held_of legs f x m)) ≡
            cond b (Some (hold_of h)) (held_of after f x m)
        test true own = ap (λ b. cond b None (Some (hold_of h))) (kept n new own)
        test false own = same f x m

-- the last leg takes the new label, and held all else
pub last-held : (p : LocalNode) (read legs : List Leg) (g : Leg) → TakeNoMore read legs →
    TakesNoMore legs g ⊎ TakesOneMore p read legs g → (f : Fibre) (x : ℕ) (m : Lsp) →
    less g.lsp (is_lost (find_leg g.lsp legs) (Some g)) (with_new read (Some g) (held_of legs)) f x m ≡
    held_of (with_leg g legs) f x m
last-held p read legs g fewer may f x m = go (new_label (find_leg g.lsp read) g) refl
  where
    lost : Bool
    lost = is_lost (find_leg g.lsp legs) (Some g) f x && same_lsp g.lsp m

    -- all but the new label
    others : (o : Option TakenLabel) → new_label (find_leg g.lsp read) g ≡ o → (is_taken o f x ≡ true → ⊥) →
        takes f x g ≡ true → Took legs g f x
    others o new other t = one may
      where
        one : TakesNoMore legs g ⊎ TakesOneMore p read legs g → Took legs g f x
        one (inl none) = none f x t
        one (inr more) = rest (more.rest f x t)
          where
            rest : (is_this more.label f x ≡ true) ⊎ Took legs g f x → Took legs g f x
            rest (inl this) =
                absurd (other (subst (λ k. is_taken k f x ≡ true) (sym (one-new p read legs g fewer more) ∙ new) this))
            rest (inr took) = took

    go : (o : Option TakenLabel) → new_label (find_leg g.lsp read) g ≡ o →
        cond lost None (holds_with_label g o (held_of legs) f x m) ≡ held_of (with_leg g legs) f x m
    go None new = put-held g legs f x m (others None new (λ e. cc e))
    go (Some n) new = test (is_this n f x) refl (same_lsp g.lsp m) refl
      where
        taken : is_this n f x ≡ true → takes f x g ≡ true
        taken this = this-to (λ f x. takes f x g ≡ true) n f x this (new-takes (find_leg g.lsp read) g n new)

        none : (b c : Bool) → ((b && not true) && c) ≡ false
        none true c = refl
        none false c = refl

        test : (a : Bool) → is_this n f x ≡ a → (b : Bool) → same_lsp g.lsp m ≡ b →
            cond lost None (cond (a && b) (Some (hold_of g)) (held_of legs f x m)) ≡ held_of (with_leg g legs) f x m
        test true this true own =
            let stays : lost ≡ false =
            ap (λ t. (takes_of f x (find_leg g.lsp legs) && not t) && same_lsp g.lsp m) (taken this)
            ∙ none (takes_of f x (find_leg g.lsp legs)) (same_lsp g.lsp m) in
            let here : find_leg m (with_leg g legs) ≡ Some g = find-with_leg g legs m ∙ rw own refl in
            ap (λ b. cond b None (Some (hold_of g))) stays
            ∙ sym (ap (held_by f x) here ∙ held-here f x g (taken this))
        test true this false own =
            let stays : lost ≡ false = ap (λ b. is_lost (find_leg g.lsp legs) (Some g) f x && b) own
            ∙ never (is_lost (find_leg g.lsp legs) (Some g) f x) in
            let same : find_leg m (with_leg g legs) ≡ find_leg m legs = find-with_leg g legs m ∙ rw own refl in
            ap (λ b. cond b None (held_of legs f x m)) stays
            ∙ ap (held_by f x) (sym same)
          where
            never : (b : Bool) → (b && false) ≡ false
            never true = refl
            never false = refl
        test false this b own = put-held g legs f x m (others (Some n) new (λ e. let other = this in cc (other, e)))
