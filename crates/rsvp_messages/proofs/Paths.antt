-- The parts of a Path: nothing else is spelled by them.
use Rattle.std.proofs.{Common.{◌≡◌, ℕ, Bool, true, false, Option, Some, None, Result, Ok, Err, List, [], ◌∷◌, length, inl, inr, refl, ap, sym, subst, ◌∙◌, arith, IfOk, IfSome, IsErrOf}, lemmas.Option.same_Some}
use Rattle.ason_base.specs.{declared.ids.LinkId.LinkId, declared.ids.Lsp.Lsp, declared.ids.NodeId.NodeId, declared.messages.DecodeError.DecodeError, declared.messages.Msg.Msg, declared.messages.Msg.TheVariants.{Path, Resv, PathTear, PathErr, Notify}, declared.messages.PathRole.PathRole, declared.messages.PathRole.TheVariants.{Work, Back}, declared.steps.Step.Step}
use Rattle.wire_buf.specs.Routes.{IsRoute}
use Rattle.rsvp_objects.specs.{declared.association.Association.Association, declared.protection.Protection.Protection, RecoveryBodies.{IsAssociation, IsProtection}}
use Rattle.rsvp_objects.specs.declared.protection.Protection.TheVariants as bits
use Rattle.rsvp_messages.specs.{declared.fields.Subject.Subject, declared.path.Head.Head, Messages.{HasProtection, HasRole, HasRoute, SpellsPath, Ties}, Objects.{Object, of_class}, Packets.SpellsTyped, Parts.HasOne}
use Rattle.rsvp_messages.proofs.Lookups.{means_here, of_list}
use Rattle.std.specs.{Option.{option_map, option_to_list}, Result.IsErrAnd}

both : {X : Type 0} (x : X) → [] ≡ x ∷ [] → ⊥
both x e = absurd (omega (arith, ap length e))

-- EXPLICIT_ROUTE

pub no_route : (os : List Object) → ((found : Option (List ℕ)) →
    of_class 20 os ≡ option_to_list (option_map (of_list 20 1) found) → false ≡ true) → (steps : List Step) →
    HasRoute os steps → ⊥
no_route os none [] has = cc (none None has)
no_route os none (s ∷ ss) has = cc (none (Some has.body) has.one)

pub route_here : (os : List Object) (body : List ℕ) → of_class 20
    os ≡ record { class = 20; ctype = 1; body = body } ∷ [] → (steps : List Step) → HasRoute os steps →
    IsRoute body steps
route_here os body one [] has = absurd (both _ (sym has ∙ one))
route_here os body one (s ∷ ss) has = means_here 20 1 (λ b. IsRoute b (s ∷ ss)) os body one has

pub has_route : (os : List Object) (body : List ℕ) → of_class 20
    os ≡ record { class = 20; ctype = 1; body = body } ∷ [] → (r : Result (List Step) DecodeError) →
    IfOk r (IsRoute body) → IfOk r (HasRoute os)
has_route os body one (Err e) is = tt
has_route os body one (Ok []) is = absurd (omega (arith, is.0))
has_route os body one (Ok (s ∷ ss)) is = record { body = body; one = one; means = is }

-- the head

pub head_is : (subject : Subject) (link : LinkId) (upstream : Option ℕ) (h : Head) → Some subject ≡ Some h.subject →
    Some link ≡ Some h.link → Some upstream ≡ Some h.upstream →
    (let made : Head = record { subject = subject; link = link; upstream = upstream } in Some made ≡ Some h)
head_is subject link upstream h a b d =
    let s = same_Some _ _ a in
    let q = same_Some _ _ b in
    let y = same_Some _ _ d in
    λ i. Some (record { subject = s i; link = q i; upstream = y i })

-- ASSOCIATION

pub ties : (body : List ℕ) (a : Association) → IsAssociation body a → a.kind ≡ 1 → Ties a.id body
ties body a is kind = (
  a.source,
  (
    is.0,
    λ i. record {
      kind = (sym kind ∙ (λ j. (is.1 j).kind)) i;
      id = (is.1 i).id;
      source =
          (is.1 i).source;
    },
  ),
)

pub tie_is : (a : Association) (work source : ℕ) → Some a ≡ Some (record { kind = 1; id = work; source = source }) →
    Some a.id ≡ Some work
tie_is a work source e = let s = same_Some _ _ e in λ i. Some (s i).id

pub no_tie : (a : Association) (work source : ℕ) → Some a ≡ Some (record { kind = 1; id = work; source = source }) →
    a.kind ≡ 1
no_tie a work source e = let s = same_Some _ _ e in λ i. (s i).kind

-- PROTECTION

pub no_protection : (os : List Object) → ((found : Option (List ℕ)) →
    of_class 37 os ≡ option_to_list (option_map (of_list 37 2) found) → false ≡ true) → (p : Protection) →
    HasProtection os p → ⊥
no_protection os none p (inl has) = cc (none None has.0)
no_protection os none p (inr has) = cc (none (Some has.body) has.one)

pub protection_here : (os : List Object) (body : List ℕ) →
    of_class 37 os ≡ record { class = 37; ctype = 2; body = body } ∷ [] → (p : Protection) → HasProtection os p →
    IsProtection body p
protection_here os body one p (inl has) = absurd (both _ (sym has.0 ∙ one))
protection_here os body one p (inr has) = means_here 37 2 (λ b. IsProtection b p) os body one has

pub has_protection : (os : List Object) (body : List ℕ) →
    of_class 37 os ≡ record { class = 37; ctype = 2; body = body } ∷ [] → (r : Option Protection) →
    IfSome r (IsProtection body) → IfSome r (HasProtection os)
has_protection os body one None is = tt
has_protection os body one (Some p) is = inr (record { body = body; one = one; means = is })

pub unprotected : (os : List Object) → of_class 37 os ≡ [] → (p : Protection) → HasProtection os p →
    Some (bits.Work false) ≡ Some p
unprotected os none p (inl has) = ap (λ (q : Protection). Some q) (sym has.1)
unprotected os none p (inr has) = absurd (both _ (sym none ∙ has.one))

-- roles

pub no_role : (os : List Object) → ((p : Protection) → HasProtection os p → ⊥) → (role : PathRole) → HasRole os role → ⊥
no_role os none (Work guard) has = none (bits.Work guard) has
no_role os none (Back active work primary) has = none (bits.Back active) has.0

pub found_back : (os : List Object) (found : Protection) (active : Bool) →
    ((p : Protection) → HasProtection os p → Some found ≡ Some p) → found ≡ bits.Back active → (p : Protection) →
    HasProtection os p → Some (bits.Back active) ≡ Some p
found_back os found active only e p has = ap (λ (q : Protection). Some q) (sym e) ∙ only p has

pub only_back : (os : List Object) (P : PathRole → Type 0) (active : Bool) →
    ((p : Protection) → HasProtection os p → Some (bits.Back active) ≡ Some p) →
    ((work : ℕ) (primary : List Step) → HasOne 199 1 (Ties work) os → HasOne 38 1 (λ body. IsRoute body primary) os →
    P (Back active work primary)) → (role : PathRole) → HasRole os role → P role
only_back os P active only is (Work guard) has =
    absurd (let e : Some (bits.Back active) ≡ Some (bits.Work guard) = only (bits.Work guard) has in cc)
only_back os P active only is (Back a work primary) has =
    subst (λ (b : Bool). P (Back b work primary)) (same active a (only (bits.Back a) has.0))
    (is work primary has.1 has.2) where
      same : (a b : Bool) → Some (bits.Back a) ≡ Some (bits.Back b) → a ≡ b
      same true true e = refl
      same false false e = refl
      same true false e = absurd cc
      same false true e = absurd cc

pub back_is : (active : Bool) (work w : ℕ) (primary p : List Step) → Some work ≡ Some w → primary ≡ p →
    Back active work primary ≡ Back active w p
back_is active work w primary p a b = let s = same_Some _ _ a in λ i. Back active (s i) (b i)

-- whole Paths

pub only_path : (os : List Object) (P : Msg → Type 0) →
    ((l : Lsp) (e : NodeId) (k : LinkId) (r : List Step) (s : List ℕ) (u : Option ℕ) (role : PathRole) →
    SpellsPath os l e k r s u role → P (Path l e k r s u role)) →
    (m : Msg) → SpellsTyped 1 os m → P m
only_path os P is (Path l e k r s u role) typed = is l e k r s u role typed.1
only_path os P is (Resv l e k x) typed = absurd (omega (arith, typed.0))
only_path os P is (PathTear l e k) typed = absurd (omega (arith, typed.0))
only_path os P is (PathErr l e n b x) typed = absurd (omega (arith, typed.0))
only_path os P is (Notify l e n k x) typed = absurd (omega (arith, typed.0))

pub path_is : (head : Head) (route : List Step) (set : List ℕ) (role : PathRole) (l : Lsp) (e : NodeId) (k : LinkId)
    (r : List Step) (s : List ℕ) (u : Option ℕ) (p : PathRole) →
    Some head ≡ Some (record {
      subject =
          record { lsp = l; egress = e };
      link = k;
      upstream = u;
    }) → route ≡ r → set ≡ s → role ≡ p →
    Path head.subject.lsp head.subject.egress head.link route set head.upstream role ≡ Path l e k r s u p
path_is head route set role l e k r s u p a b d f =
    let h = same_Some _ _ a in
    λ i. Path (h i).subject.lsp (h i).subject.egress (h i).link (b i) (d i) (h i).upstream (f i)

-- an error that a caller passes on
pub passed : {T U : Type 0} (r : Result T DecodeError) (x n : DecodeError) → IsErrAnd r (λ y. y ≡ x) → IsErrOf r n →
    IsErrOf {T = U} (Err x) n
passed (Ok t) x n is of = absurd is
passed (Err y) x n is of = let same : y ≡ n = cc in ap Err (sym is ∙ same)
