-- Objects in another order spell the same; the acknowledgements are read in theirs.
use Rattle.std.proofs.{Common.{◌≡◌, inl, inr, ℕ, Bool, true, false, cond, nat_eq, not, Option, None, Some, List, [], ◌∷◌, length, refl, sym, ap, ◌∙◌, subst, arith, Contains}, lemmas.List.Elements.filter_agree, lemmas.List.Sorted.{Contains-permutation, IsPermutation-sym, sum_by-IsPermutation}, lemmas.List.Sums.length-filter}
use Rattle.std.specs.{Prelude.{◌&&◌, ◌||◌, filter}, List.list_any, List.Sorted.IsPermutation}
use Rattle.ason_base.specs.{declared.limits.TheConstants.MOST_LABELS, declared.ids.Lsp.Lsp, declared.ids.NodeId.NodeId, declared.messages.Msg.Msg, declared.messages.Msg.TheVariants.{Path, Resv, PathTear, PathErr, Notify}, declared.messages.MsgId.MsgId, declared.messages.Packet.Packet, declared.messages.PathRole.PathRole, declared.messages.PathRole.TheVariants.{Work, Back}, declared.steps.Step.Step, Labels.up_to}
use Rattle.ason_base.proofs.{Ordered.{any-there, there-any}, Members.{contains-head, contains-tail, contains-cases, contains-none}, Bools.same-truth}
use Rattle.rsvp_objects.specs.{declared.error.ErrorSpec.ErrorSpec, declared.label_set.LabelSetObject.LabelSetObject, Bodies.IsMsgId, LabelSets.IsLabelSet, declared.protection.Protection.Protection}
use Rattle.rsvp_messages.specs.{Messages.{allows, includes, excludes, HasError, HasProtection, HasRole, HasRoute, HasSet, NamesLsp, SpellsMsg}, Objects.{Object, of_class}, Packets.{ObjectsComeInAnyOrder, SpellsBody, SpellsPacket}, Parts.{AreEach, HasAtMostOne, HasOne}}
use Rattle.rsvp_messages.proofs.Moves.{move_each}

-- The objects of a class, in another order

kept-there : (p : Object → Bool) (os : List Object) (o : Object) → Contains (filter p os) o →
    Contains os o × (p o ≡ true)
kept-there p [] o h = absurd (contains-none o h)
kept-there p (x ∷ os) o h = go (p x) refl h (kept-there p os o)
  where
    go : (a : Bool) → p x ≡ a → Contains (cond a (x ∷ filter p os) (filter p os)) o →
        (Contains (filter p os) o → Contains os o × (p o ≡ true)) → Contains (x ∷ os) o × (p o ≡ true)
    go true e there later = elim (contains-cases x o (filter p os) there) [
      | inl is ↦ (subst (λ z. Contains (x ∷ os) z) is (contains-head x os), subst (λ z. p z ≡ true) is e)
      | inr behind ↦ (let found = later behind in (contains-tail x o os found.0, found.1))
    ]
    go false e there later = let found = later there in (contains-tail x o os found.0, found.1)

there-kept : (p : Object → Bool) (os : List Object) (o : Object) → Contains os o → p o ≡ true → Contains (filter p os) o
there-kept p [] o there e = absurd (contains-none o there)
there-kept p (x ∷ os) o there e = go (p x) refl (there-kept p os o)
  where
    go : (a : Bool) → p x ≡ a → (Contains os o → p o ≡ true → Contains (filter p os) o) →
        Contains (cond a (x ∷ filter p os) (filter p os)) o
    go true f before = elim (contains-cases x o os there) [
      | inl is ↦ subst (λ z. Contains (x ∷ filter p os) z) is (contains-head x (filter p os))
      | inr later ↦ contains-tail x o (filter p os) (before later e)
    ]
    go false f before = elim (contains-cases x o os there) [
      | inl is ↦ cc (subst (λ z. p z ≡ true) (sym is) e, f)
      | inr later ↦ before later e
    ]

class_there : (class : ℕ) (os new : List Object) (o : Object) → IsPermutation os new → Contains (of_class class os) o →
    Contains (of_class class new) o
class_there class os new o moved there =
    let kept = kept-there (λ (x : Object). nat_eq x.class class) os o there in
    there-kept (λ (x : Object). nat_eq x.class class) new o (Contains-permutation os new o moved kept.0) kept.1

class_length : (class : ℕ) (os new : List Object) → IsPermutation os new →
    length (of_class class new) ≡ length (of_class class os)
class_length class os new moved =
    let p : Object → Bool = λ x. nat_eq x.class class in
    length-filter p new ∙ sum_by-IsPermutation (λ x. cond (p x) 1 0) os new moved ∙ sym (length-filter p os)

none_left : (xs : List Object) → length xs ≡ 0 → xs ≡ []
none_left [] e = refl
none_left (x ∷ xs) e = absurd (omega arith)

one_left : (xs : List Object) (o : Object) → length xs ≡ 1 → Contains xs o → xs ≡ o ∷ []
one_left [] o e there = absurd (contains-none o there)
one_left (x ∷ xs) o e there =
    let none : xs ≡ [] = none_left xs (omega arith) in
    elim (contains-cases x o xs there) [
      | inl is ↦ (λ i. is i ∷ none i)
      | inr later ↦ absurd (contains-none o (subst (λ l. Contains l o) none later))
    ]

same_none : (class : ℕ) (os new : List Object) → IsPermutation os new → of_class class os ≡ [] → of_class class new ≡ []
same_none class os new moved e = none_left (of_class class new) (class_length class os new moved ∙ ap length e)

same_one : (class : ℕ) (os new : List Object) (o : Object) → IsPermutation os new → of_class class os ≡ o ∷ [] →
    of_class class new ≡ o ∷ []
same_one class os new o moved e =
    one_left (of_class class new) o (class_length class os new moved ∙ ap length e)
    (class_there class os new o moved (subst (λ l. Contains l o) (sym e) (contains-head o [])))

permuted_one : (class ctype : ℕ) (Means : List ℕ → Type 0) (os new : List Object) → IsPermutation os new →
    HasOne class ctype Means os → HasOne class ctype Means new
permuted_one class ctype Means os new moved has =
    record {
      body = has.body;
      one =
          same_one class os new (record { class = class; ctype = ctype; body = has.body }) moved has.one;
      means = has.means;
    }

permuted_at_most : {X : Type 0} (class ctype : ℕ) (Means : List ℕ → X → Type 0) (os new : List Object) (x : Option X) →
    IsPermutation os new → HasAtMostOne class ctype Means os x → HasAtMostOne class ctype Means new x
permuted_at_most class ctype Means os new None moved has = same_none class os new moved has
permuted_at_most class ctype Means os new (Some x) moved has =
    permuted_one class ctype (λ b. Means b x) os new moved has

-- Label sets, of which there may be several

label_set_once : (body : List ℕ) (a b : LabelSetObject) → IsLabelSet body a → IsLabelSet body b → a ≡ b
label_set_once body a b (inl p) (inl q) = p.2 ∙ sym q.2
label_set_once body a b (inl p) (inr (inl q)) = absurd (cc (p.0, q.0))
label_set_once body a b (inl p) (inr (inr (inl q))) = absurd (cc (p.0, q.0))
label_set_once body a b (inl p) (inr (inr (inr q))) = absurd (cc (p.0, q.0))
label_set_once body a b (inr (inl p)) (inl q) = absurd (cc (p.0, q.0))
label_set_once body a b (inr (inl p)) (inr (inl q)) = p.2 ∙ sym q.2
label_set_once body a b (inr (inl p)) (inr (inr (inl q))) = absurd (cc (p.0, q.0))
label_set_once body a b (inr (inl p)) (inr (inr (inr q))) = absurd (cc (p.0, q.0))
label_set_once body a b (inr (inr (inl p))) (inl q) = absurd (cc (p.0, q.0))
label_set_once body a b (inr (inr (inl p))) (inr (inl q)) = absurd (cc (p.0, q.0))
label_set_once body a b (inr (inr (inl p))) (inr (inr (inl q))) = p.2 ∙ sym q.2
label_set_once body a b (inr (inr (inl p))) (inr (inr (inr q))) = absurd (cc (p.0, q.0))
label_set_once body a b (inr (inr (inr p))) (inl q) = absurd (cc (p.0, q.0))
label_set_once body a b (inr (inr (inr p))) (inr (inl q)) = absurd (cc (p.0, q.0))
label_set_once body a b (inr (inr (inr p))) (inr (inr (inl q))) = absurd (cc (p.0, q.0))
label_set_once body a b (inr (inr (inr p))) (inr (inr (inr q))) = p.2 ∙ sym q.2

each_at : (os : List Object) (xs : List LabelSetObject) (o : Object) → AreEach 1 IsLabelSet os xs → Contains os o →
    (x : LabelSetObject) × Contains xs x × (o.ctype ≡ 1) × IsLabelSet o.body x
each_at [] xs o are there = absurd (contains-none o there)
each_at (p ∷ os) [] o are there = absurd are
each_at (p ∷ os) (x ∷ xs) o are there = elim (contains-cases p o os there) [
  | inl is ↦ (
    x,
    contains-head x xs,
    subst (λ (z : Object). z.ctype ≡ 1) is are.0,
    subst (λ (z : Object). IsLabelSet z.body x) is are.1,
  )
  | inr later ↦ (let found =
      each_at os xs o are.2 later in (found.0, contains-tail x found.0 xs found.1, found.2, found.3))
]

each_back : (os : List Object) (xs : List LabelSetObject) (x : LabelSetObject) → AreEach 1 IsLabelSet os xs →
    Contains xs x → (o : Object) × Contains os o × IsLabelSet o.body x
each_back [] [] x are there = absurd (contains-none x there)
each_back [] (y ∷ xs) x are there = absurd are
each_back (p ∷ os) [] x are there = absurd are
each_back (p ∷ os) (y ∷ xs) x are there = elim (contains-cases y x xs there) [
  | inl is ↦ (p, contains-head p os, subst (λ z. IsLabelSet p.body z) is are.1)
  | inr later ↦ (let found = each_back os xs x are.2 later in (found.0, contains-tail p found.0 os found.1, found.2))
]

-- the sets of objects that all stand among others
gathered : (os : List Object) (xs : List LabelSetObject) (new : List Object) → AreEach 1 IsLabelSet os xs →
    ((o : Object) → Contains new o → Contains os o) →
    (ys : List LabelSetObject) × AreEach 1 IsLabelSet new ys × ((y : LabelSetObject) → Contains ys y → Contains xs y)
gathered os xs [] are within = ([], tt, (λ y there. absurd (contains-none y there)))
gathered os xs (o ∷ new) are within =
    let here = each_at os xs o are (within o (contains-head o new)) in
    let left = gathered os xs new are (λ z there. within z (contains-tail o z new there)) in (
      here.0 ∷ left.0,
      (here.2, here.3, left.1),
      (λ y there. elim (contains-cases here.0 y left.0 there) [
        | inl is ↦ subst (λ z. Contains xs z) is here.1
        | inr later ↦ left.2 y later
      ]),
    )

any_same : (xs ys : List LabelSetObject) (p : LabelSetObject → Bool) →
    ((y : LabelSetObject) → Contains ys y → Contains xs y) → ((x : LabelSetObject) → Contains xs x → Contains ys x) →
    list_any p ys ≡ list_any p xs
any_same xs ys p to from =
    same-truth (list_any p ys) (list_any p xs)
    (λ h. let found = any-there p ys h in there-any p xs found.0 (to found.0 found.1) found.2)
    (λ h. let found = any-there p xs h in there-any p ys found.0 (from found.0 found.1) found.2)

permuted_set : (os new : List Object) (set : List ℕ) → IsPermutation os new → HasSet os set → HasSet new set
permuted_set os new set moved (xs, are, is) =
    let back = IsPermutation-sym os new moved in
    let ys = gathered (of_class 36 os) xs (of_class 36 new) are (λ o there. class_there 36 new os o back there) in
    let from = all_there ys.0 ys.1 in (
      ys.0,
      ys.1,
      is ∙ sym
          (filter_agree (allows ys.0) (allows xs) (λ l. same_allowed ys.0 ys.2 from l) (up_to MOST_LABELS)),
    )
  where
    all_there : (ys : List LabelSetObject) → AreEach 1 IsLabelSet (of_class 36 new) ys → (x : LabelSetObject) →
        Contains xs x → Contains ys x
    all_there ys each x there =
        let source = each_back (of_class 36 os) xs x are there in
        let found = each_at (of_class 36 new) ys source.0 each (class_there 36 os new source.0 moved source.1) in
        subst (λ z. Contains ys z) (label_set_once source.0.body found.0 x found.3 source.2) found.1

    same_allowed : (ys : List LabelSetObject) → ((y : LabelSetObject) → Contains ys y → Contains xs y) →
        ((x : LabelSetObject) → Contains xs x → Contains ys x) → (l : ℕ) → allows ys l ≡ allows xs l
    same_allowed ys to from l =
        let a : list_any (λ (x : LabelSetObject). x.include) ys ≡ list_any (λ (x : LabelSetObject). x.include) xs =
        any_same xs ys (λ x. x.include) to from in
        let b : list_any (includes l) ys ≡ list_any (includes l) xs = any_same xs ys (includes l) to from in
        let c : list_any (excludes l) ys ≡ list_any (excludes l) xs = any_same xs ys (excludes l) to from in
        λ i. (not (a i) || b i) && not (c i)

-- Messages

permuted_names : (class : ℕ) (os new : List Object) (l : Lsp) (n : NodeId) → IsPermutation os new →
    NamesLsp class os l n → NamesLsp class new l n
permuted_names class os new l n moved h = record {
  session = h.session;
  sender = h.sender;
  has_session = permuted_one 1 7 _ os new moved h.has_session;
  has_sender = permuted_one class 7 _ os new moved h.has_sender;
  lsp_is = h.lsp_is;
  egress_is = h.egress_is;
}

permuted_route : (os new : List Object) (steps : List Step) → IsPermutation os new → HasRoute os steps →
    HasRoute new steps
permuted_route os new [] moved has = same_none 20 os new moved has
permuted_route os new (s ∷ ss) moved has = permuted_one 20 1 _ os new moved has

permuted_protection : (os new : List Object) (p : Protection) → IsPermutation os new → HasProtection os p →
    HasProtection new p
permuted_protection os new p moved (inl has) = inl (same_none 37 os new moved has.0, has.1)
permuted_protection os new p moved (inr has) = inr (permuted_one 37 2 _ os new moved has)

permuted_role : (os new : List Object) (role : PathRole) → IsPermutation os new → HasRole os role → HasRole new role
permuted_role os new (Work guard) moved has = permuted_protection os new _ moved has
permuted_role os new (Back active work primary) moved has = (
  permuted_protection os new _ moved has.0,
  permuted_one 199 1 _ os new moved has.1,
  permuted_one 38 1 _ os new moved has.2,
)

permuted_error : (os new : List Object) (e : ErrorSpec) → IsPermutation os new → HasError os e → HasError new e
permuted_error os new e moved (inl has) = inl (permuted_one 6 3 _ os new moved has)
permuted_error os new e moved (inr has) = inr (permuted_one 6 1 _ os new moved has)

permuted_msg : (os new : List Object) (m : Msg) → IsPermutation os new → SpellsMsg os m → SpellsMsg new m
permuted_msg os new (Path l n k r s u role) moved h = record {
  head = record {
    names = permuted_names 11 os new l n moved h.head.names;
    comes = permuted_one 3 3 _ os new moved h.head.comes;
    request = permuted_one 19 4 _ os new moved h.head.request;
    has_upstream = permuted_at_most 35 2 _ os new u moved h.head.has_upstream;
  };
  has_route = permuted_route os new r moved h.has_route;
  has_set = permuted_set os new s moved h.has_set;
  has_role = permuted_role os new role moved h.has_role;
}
permuted_msg os new (Resv l n k x) moved h =
    (permuted_names 10 os new l n moved h.0, permuted_one 3 3 _ os new moved h.1, permuted_one 16 2 _ os new moved h.2)
permuted_msg os new (PathTear l n k) moved h =
    (permuted_names 11 os new l n moved h.0, permuted_one 3 3 _ os new moved h.1)
permuted_msg os new (PathErr l n a b x) moved h =
    (permuted_names 11 os new l n moved h.0, (h.1.0, permuted_error os new h.1.0 moved h.1.1, h.1.2, h.1.3, h.1.4))
permuted_msg os new (Notify l n a k x) moved h =
    (permuted_names 11 os new l n moved h.0, (h.1.0, permuted_one 6 3 _ os new moved h.1.1, h.1.2, h.1.3, h.1.4))

permuted_body : (os new : List Object) (id : Option MsgId) (acks : List MsgId) (body : Option Msg) →
    IsPermutation os new → SpellsBody os id acks body → SpellsBody new id acks body
permuted_body os new id acks None moved h = h
permuted_body os new id acks (Some m) moved h =
    (permuted_at_most 23 1 IsMsgId os new id moved h.0, permuted_msg os new m moved h.1)

permuted_packet : (os new : List Object) (p : Packet) → IsPermutation os new → of_class 24 os ≡ of_class 24 new →
    SpellsPacket os p → SpellsPacket new p
permuted_packet os new p moved same h = record {
  acks = (h.acks.0, move_each 24 1 IsMsgId os new p.acks same h.acks.1);
  body = permuted_body os new p.id p.acks p.body moved h.body;
}

pub permuted_message : ObjectsComeInAnyOrder
permuted_message bytes others os moved p spelled header are permuted same =
    record { header = header; objects = are; packet = permuted_packet os moved p permuted same spelled.packet }
