-- Each line of logs and posts has one owner, so the merge of the lists is the merge of all logs and posts.
use Rattle.std.proofs.{Common.{◌≡◌, ℕ, Bool, true, false, cond, nat_eq, List, [], ◌∷◌, ◌++◌, filter, refl, sym, ap, ◌∙◌, ◌⊎◌, subst, arith, append-nil, inl, inr}, lemmas.Bool.or_parts}
use Rattle.std.specs.{Prelude.{◌||◌, Option, Some, None}, List.{AllByRecursion, flat_map, list_any}}
use Rattle.ason_base.specs.{Network.is_distinct, declared.commands.Entry.Entry, declared.ids.NodeId.NodeId}
use Rattle.ason_base.proofs.Bools.{not-and}
use Rattle.world_merge.specs.{MergedLogs.{AreLogsOf, EveryMergingMerges, IsLogOf}, Orders.{is_at_node, is_no_node, is_of, is_post}, Picking.{HasNoLine, IsInOne, IsPicked, merged_of}}
use Rattle.world_merge.proofs.{Picked.none-of, Picking.picking-sorts, PostsOfNone.post_of_none}

-- Lists of one owner

abbrev All : (Entry → Bool) → Bool → List Entry → Type 0
All f b l = AllByRecursion (λ (e : Entry). f e ≡ b) l

all_kept : (f : Entry → Bool) (l : List Entry) → All f true l → filter f l ≡ l
all_kept f [] all = refl
all_kept f (e ∷ l) all =
    ap (λ b. cond b (e ∷ filter f l) (filter f l)) all.0 ∙ ap (λ xs. e ∷ xs) (all_kept f l all.1)

none_kept : (f : Entry → Bool) (l : List Entry) → All f false l → filter f l ≡ []
none_kept f [] all = refl
none_kept f (e ∷ l) all =
    ap (λ b. cond b (e ∷ filter f l) (filter f l)) all.0 ∙ none_kept f l all.1

all_else : (f g : Entry → Bool) → ((e : Entry) → f e ≡ true → g e ≡ false) → (l : List Entry) → All f true l →
    All g false l
all_else f g differs [] all = tt
all_else f g differs (e ∷ l) all = (differs e all.0, all_else f g differs l all.1)

-- Owners

of_no_post : (n : ℕ) (e : Entry) → is_of n e ≡ true → is_post e ≡ false
of_no_post n e h = go e.node h
  where
    go : (o : Option NodeId) → is_at_node n o ≡ true → is_no_node o ≡ false
    go None h = absurd (cc (h))
    go (Some m) h = refl

of_no_other : (n m : ℕ) → nat_eq m n ≡ false → (e : Entry) → is_of m e ≡ true → is_of n e ≡ false
of_no_other n m differ e h = go e.node h
  where
    at : (k : ℕ) (b : Bool) → nat_eq k n ≡ b → nat_eq k m ≡ true → b ≡ false
    at k false i j = refl
    at k true i j = absurd (grind (arith, differ, i, j))

    go : (o : Option NodeId) → is_at_node m o ≡ true → is_at_node n o ≡ false
    go None h = absurd (cc (h))
    go (Some k) h = at k.0 (nat_eq k.0 n) refl h

-- Logs

no_posts : (logs : ℕ → List Entry) (ns : List ℕ) (ls : List (List Entry)) → AreLogsOf logs ns ls → HasNoLine is_post ls
no_posts logs [] [] all = tt
no_posts logs [] (l ∷ ls) all = absurd all
no_posts logs (n ∷ ns) [] all = absurd all
no_posts logs (n ∷ ns) (l ∷ ls) all =
    (none_kept is_post l (all_else (is_of n) is_post (of_no_post n) l all.0.own), no_posts logs ns ls all.1)

abbrev IsNoneOf : List ℕ → ℕ → Type 0
IsNoneOf ns n = list_any (λ m. nat_eq m n) ns ≡ false

not_there : (logs : ℕ → List Entry) (n : ℕ) (ns : List ℕ) (ls : List (List Entry)) → IsNoneOf ns n →
    AreLogsOf logs ns ls → HasNoLine (is_of n) ls
not_there logs n [] [] none all = tt
not_there logs n [] (l ∷ ls) none all = absurd all
not_there logs n (m ∷ ns) [] none all = absurd all
not_there logs n (m ∷ ns) (l ∷ ls) none all =
    let r = or_parts (nat_eq m n) (list_any (λ k. nat_eq k n) ns) none in (
      none_kept (is_of n) l (all_else (is_of m) (is_of n) (of_no_other n m r.0) l all.0.own),
      not_there logs n ns ls r.1 all.1,
    )

-- of these lists one alone has the lines of node n, and they are its log
record IsFound (logs : ℕ → List Entry) (n : ℕ) (ls : List (List Entry)) : Type 0 where
  one : IsInOne (is_of n) ls
  log : flat_map (filter (is_of n)) ls ≡ logs n

this_one : (logs : ℕ → List Entry) (n : ℕ) (l : List Entry) (ls : List (List Entry)) → IsLogOf logs n l →
    HasNoLine (is_of n) ls → IsFound logs n (l ∷ ls)
this_one logs n l ls is none = record {
  one = inr none;
  log =
      ap (λ xs. xs ++ flat_map (filter (is_of n)) ls) (all_kept (is_of n) l is.own)
      ∙ ap (λ xs. l ++ xs) (none-of (is_of n) ls none)
      ∙ append-nil l ∙ is.log;
}

another : (logs : ℕ → List Entry) (n m : ℕ) (l : List Entry) (ls : List (List Entry)) → nat_eq m n ≡ false →
    IsLogOf logs m l →
    IsFound logs n ls → IsFound logs n (l ∷ ls)
another logs n m l ls ne is found =
    let none = none_kept (is_of n) l (all_else (is_of m) (is_of n) (of_no_other n m ne) l is.own) in record {
      one = inl (none, found.one);
      log = ap (λ xs. xs ++ flat_map (filter (is_of n)) ls) none ∙ found.log;
    }

found_or_none : (logs : ℕ → List Entry) (ns : List ℕ) (ls : List (List Entry)) → is_distinct ns ≡ true →
    AreLogsOf logs ns ls → (n : ℕ) → IsFound logs n ls ⊎ IsNoneOf ns n
found_or_none logs [] [] distinct all n = inr refl
found_or_none logs [] (l ∷ ls) distinct all n = absurd all
found_or_none logs (m ∷ ns) [] distinct all n = absurd all
found_or_none logs (m ∷ ns) (l ∷ ls) distinct all n =
    let d = not-and (list_any (λ k. nat_eq k m) ns) (is_distinct ns) distinct in
    go d.0 (nat_eq m n) refl (found_or_none logs ns ls d.1 all.1 n)
  where
    here : IsNoneOf ns m → m ≡ n → IsFound logs n (l ∷ ls)
    here none e =
        subst (λ k. IsFound logs k (l ∷ ls)) e (this_one logs m l ls all.0 (not_there logs m ns ls none all.1))

    go : IsNoneOf ns m → (b : Bool) → nat_eq m n ≡ b → IsFound logs n ls ⊎ IsNoneOf ns n →
        IsFound logs n (l ∷ ls) ⊎ IsNoneOf (m ∷ ns) n
    go none true i r = inl (here none (grind (arith, i)))
    go none false i r = elim r [
      | inl h ↦ inl (another logs n m l ls i all.0 h)
      | inr h ↦ inr (ap (λ b. b || list_any (λ k. nat_eq k n) ns) i ∙ h)
    ]

-- what is merged of the posts and the logs has them all, each in its order
pub every-merging-merges : EveryMergingMerges
every-merging-merges logs posts ns ls has = record {
  sorted = is.sorted;
  each_log = λ n. log_of n (found_or_none logs ns ls has.distinct has.each_log n);
  all_posts =
      let none = no_posts logs ns ls has.each_log in
      is.each is_post (inr none) ∙ ap (λ xs. filter is_post posts ++ xs) (none-of is_post ls none)
      ∙ append-nil (filter is_post posts) ∙ all_kept is_post posts has.posted;
}
  where
    is : IsPicked (posts ∷ ls)
    is = picking-sorts (posts ∷ ls) has.sorted

    no_log : (n : ℕ) → filter (is_of n) posts ≡ []
    no_log n = none_kept (is_of n) posts (all_else is_post (is_of n) (post_of_none n) posts has.posted)

    log_of : (n : ℕ) → IsFound logs n ls ⊎ IsNoneOf ns n → filter (is_of n) (merged_of (posts ∷ ls)) ≡ logs n
    log_of n r = elim r [
      | inl h ↦ is.each (is_of n) (inl (no_log n, h.one))
          ∙ ap (λ xs. xs ++ flat_map (filter (is_of n)) ls) (no_log n) ∙ h.log
      | inr h ↦ let none = not_there logs n ns ls h has.each_log in
          is.each (is_of n) (inr none) ∙ ap (λ xs. xs ++ flat_map (filter (is_of n)) ls) (no_log n)
          ∙ none-of (is_of n) ls none ∙ sym (has.others n h)
    ]
