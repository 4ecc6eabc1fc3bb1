-- The first call of an LSP, by the index.
use Rattle.std.proofs.{Common.{◌≡◌, ◌≤◌, ◌<◌, ℕ, Bool, true, false, cond, nat_eq, List, [], ◌∷◌, refl, sym, ap, subst, ◌∙◌, arith}, lemmas.Bool.{or_right, or_left, false_from_ne_true}}
use Rattle.std.specs.{Prelude.{◌||◌, nat_le, Option, Some, None, find}, List.{AllByRecursion, list_any}}
use Rattle.ason_base.specs.{declared.ids.CallNo.CallNo, declared.ids.Lsp.Lsp, declared.tables.CallRec.CallRec, Lsps.is_lsp}
use Rattle.mesh_rules.specs.Calls.{find_call}
use Rattle.mesh_nodes.specs.Order.{CallsRise}
use Rattle.mesh_nodes.proofs.CallList.{all-calls_found, found-number}
use Rattle.leg_table.specs.{declared.lsp_index.LspOfCall.LspOfCall, CallLists.lesser, LspIndexes.{IsFirstCall, IsIndexOf, has_entry, has_call_lsp, is_entry, is_same, option_order}, CallTables.number_of}
use Rattle.leg_table.proofs.LspOrder.{entry-eq}

-- no call passes, or this is the least number of those that do
abbrev pub IsLeast : (CallRec → Bool) → List CallRec → Option CallNo → Type 0
IsLeast p calls None = AllByRecursion (λ d. p d ≡ false) calls
IsLeast p calls (Some n) =
    ((c : CallRec) × (find_call n calls ≡ Some c) × (p c ≡ true))
    × AllByRecursion (λ d. p d ≡ true → n.0 ≤ d.call.0) calls

-- From the index

pub is-lsp : (m : Option Lsp) (l : Lsp) → is_same m (Some l) ≡ is_lsp m l
is-lsp None l = refl
is-lsp (Some k) l = refl

any-of : {X : Type 0} {R : Type 0} (p : X → Bool) (Q : X → Type 0) (xs : List X) → list_any p xs ≡ true →
    AllByRecursion Q xs → ((x : X) → p x ≡ true → Q x → R) → R
any-of p Q [] any all use_it = absurd (cc any)
any-of {X} {R} p Q (x ∷ xs) any all use_it = go (p x) refl any (λ later. any-of p Q xs later all.1 use_it)
  where
    go : (b : Bool) → p x ≡ b → (b || list_any p xs) ≡ true → (list_any p xs ≡ true → R) → R
    go true e h later = use_it x e all.0
    go false e h later = later h

-- a call with the LSP has an entry
entered : (of : CallRec → Option Lsp) (l : Lsp) (calls : List CallRec) (es : List LspOfCall) (k : CallNo)
    (d : CallRec) → IsIndexOf of calls es → find_call k calls ≡ Some d → is_lsp (of d) l ≡ true →
    has_entry (record { lsp = Some l; call = k }) es ≡ true
entered of l calls es k d index found has =
    index.entries (record { lsp = Some l; call = k }) ∙ ap (λ o. has_call_lsp of o (Some l)) found ∙ is-lsp (of d) l
    ∙ has

has-found : (of : CallRec → Option Lsp) (o : Option CallRec) (l : Lsp) → has_call_lsp of o (Some l) ≡ true →
    (c : CallRec) × (o ≡ Some c) × (is_lsp (of c) l ≡ true)
has-found of None l h = absurd (cc h)
has-found of (Some c) l h = (c, refl, sym (is-lsp (of c) l) ∙ h)

pub least-first : (of : CallRec → Option Lsp) (l : Lsp) (calls : List CallRec) (es : List LspOfCall)
    (o : Option CallNo) → CallsRise calls → IsIndexOf of calls es → IsFirstCall l es o →
    IsLeast (λ c. is_lsp (of c) l) calls o
least-first of l calls es None rise index none =
    all-calls_found (λ d. is_lsp (of d) l ≡ false) calls rise
    (λ k d found. false_from_ne_true (is_lsp (of d) l)
    (λ h. any-of (is_entry (record { lsp = Some l; call = k })) _ es (entered of l calls es k d index found h) none
    (λ x here apart.
    let is = entry-eq (record { lsp = Some l; call = k }) x here in
    cc (subst (λ y. is_same y.lsp (Some l) ≡ false) is apart, option_order.itself (Some l)))))
least-first of l calls es (Some n) rise index first = (
  has-found of (find_call n calls) l (sym (index.entries (record { lsp = Some l; call = n })) ∙ first.0),
  all-calls_found (λ d. is_lsp (of d) l ≡ true → n.0 ≤ d.call.0) calls rise
      (λ k d found h.
      any-of (is_entry (record { lsp = Some l; call = k })) _ es (entered of l calls es k d index found h) first.1
      (λ x here above. reached k d x found (entry-eq (record { lsp = Some l; call = k }) x here) above)),
)
  where
    reached : (k : CallNo) (d : CallRec) (x : LspOfCall) → find_call k calls ≡ Some d →
        x ≡ record { lsp = Some l; call = k } →
        (is_same x.lsp (Some l) ≡ true → n.0 ≤ x.call.0) → n.0 ≤ d.call.0
    reached k d x found is above =
        subst (λ m. n.0 ≤ m.0) (ap (λ y. y.call) is ∙ sym (found-number k calls d found))
        (above (ap (λ y. is_same y.lsp (Some l)) is ∙ option_order.itself (Some l)))

-- The least is the first

find-none : (p : CallRec → Bool) (calls : List CallRec) → AllByRecursion (λ d. p d ≡ false) calls → find p calls ≡ None
find-none p [] none = refl
find-none p (d ∷ calls) none = rw none.0 (find-none p calls none.1)

all-above : (d : CallRec) (calls : List CallRec) (n : CallNo) (c : CallRec) →
    AllByRecursion (λ x. d.call.0 < x.call.0) calls → find_call n calls ≡ Some c → d.call.0 < n.0
all-above d [] n c above found = absurd (cc found)
all-above d (e ∷ calls) n c above found =
    go (nat_eq e.call.0 n.0) refl found (λ f. all-above d calls n c above.1 f)
  where
    go : (b : Bool) → nat_eq e.call.0 n.0 ≡ b → cond b (Some e) (find_call n calls) ≡ Some c →
        (find_call n calls ≡ Some c → d.call.0 < n.0) → d.call.0 < n.0
    go true h f later =
        let is : e.call.0 ≡ n.0 = grind arith in let less : d.call.0 < e.call.0 = above.0 in omega (arith, is, less)
    go false h f later = later f

find-least : (p : CallRec → Bool) (calls : List CallRec) (n : CallNo) (c : CallRec) → CallsRise calls →
    find_call n calls ≡ Some c → p c ≡ true → AllByRecursion (λ d. p d ≡ true → n.0 ≤ d.call.0) calls →
    find p calls ≡ Some c
find-least p [] n c rise found passes all = absurd (cc found)
find-least p (d ∷ calls) n c rise found passes all =
    go (p d) (nat_eq d.call.0 n.0) refl refl found (λ f. find-least p calls n c rise.1 f passes all.1)
  where
    go : (a b : Bool) → p d ≡ a → nat_eq d.call.0 n.0 ≡ b → cond b (Some d) (find_call n calls) ≡ Some c →
        (find_call n calls ≡ Some c → find p calls ≡ Some c) → cond a (Some d) (find p calls) ≡ Some c
    go true true e f g later = g
    go true false e f g later =
        let less : d.call.0 < n.0 = all-above d calls n c rise.0 g in
        let more : n.0 ≤ d.call.0 = all.0 e in
        absurd (omega (arith, less, more))
    go false true e f g later =
        let is : d ≡ c = cc g in absurd (cc (subst (λ x. p x ≡ true) (sym is) passes, e))
    go false false e f g later = later g

pub least-number : (p : CallRec → Bool) (calls : List CallRec) (o : Option CallNo) → CallsRise calls →
    IsLeast p calls o → o ≡ number_of (find p calls)
least-number p calls None rise none = ap number_of (sym (find-none p calls none))
least-number p calls (Some n) rise least =
    sym
    (ap number_of (find-least p calls n least.0.0 rise least.0.1 least.0.2 least.1)
    ∙ ap Some (found-number n calls least.0.0 least.0.1))

-- The first, by its number

number-some : (o : Option CallRec) (n : CallNo) → Some n ≡ number_of o → (c : CallRec) × (o ≡ Some c) × (c.call ≡ n)
number-some None n e = absurd (cc e)
number-some (Some c) n e = (c, refl, cc e)

pub unnumbered-find : (p : CallRec → Bool) (calls : List CallRec) → None ≡ number_of (find p calls) →
    find p calls ≡ None
unnumbered-find p calls e = go (find p calls) e
  where
    go : (o : Option CallRec) → None ≡ number_of o → o ≡ None
    go None e = refl
    go (Some c) e = absurd (cc e)

first-stands : (p : CallRec → Bool) (calls : List CallRec) (c : CallRec) → CallsRise calls → find p calls ≡ Some c →
    find_call c.call calls ≡ Some c
first-stands p [] c rise found = absurd (cc found)
first-stands p (d ∷ calls) c rise found = go (p d) found (λ f. first-stands p calls c rise.1 f)
  where
    here : find_call d.call (d ∷ calls) ≡ Some d
    here = let same : nat_eq d.call.0 d.call.0 ≡ true = grind arith in rw same refl

    go : (b : Bool) → cond b (Some d) (find p calls) ≡ Some c →
        (find p calls ≡ Some c → find_call c.call calls ≡ Some c) → find_call c.call (d ∷ calls) ≡ Some c
    go true f later = let is : d ≡ c = cc f in subst (λ x. find_call x.call (d ∷ calls) ≡ Some x) is here
    go false f later =
        let below = later f in
        let less : d.call.0 < c.call.0 = all-above d calls c.call c rise.0 below in
        let apart : nat_eq d.call.0 c.call.0 ≡ false = grind arith in
        rw apart below

pub numbered-find : (p : CallRec → Bool) (calls : List CallRec) (n : CallNo) → CallsRise calls →
    Some n ≡ number_of (find p calls) → find_call n calls ≡ find p calls
numbered-find p calls n rise e =
    let c = number-some (find p calls) n e in
    subst (λ m. find_call m calls ≡ find p calls) c.2 (first-stands p calls c.0 rise c.1 ∙ sym c.1)

-- One of two

either : (a b : Bool) → (a || b) ≡ true → (a ≡ false → b ≡ true)
either true b h e = absurd (cc e)
either false b h e = h

all-two : (P Q R : CallRec → Type 0) (calls : List CallRec) → ((d : CallRec) → P d → Q d → R d) →
    AllByRecursion P calls → AllByRecursion Q calls → AllByRecursion R calls
all-two P Q R [] f ps qs = tt
all-two P Q R (d ∷ calls) f ps qs = (f d ps.0 qs.0, all-two P Q R calls f ps.1 qs.1)

neither : (a b : Bool) → a ≡ false → b ≡ false → (a || b) ≡ false
neither a b e f = rw (e, f) refl

-- what is at least m where the first passes, and at least k where the second does, is at least n, if both are
at-least : (a b : Bool) (m k n x : ℕ) → n ≤ m → n ≤ k → (a ≡ true → m ≤ x) → (b ≡ true → k ≤ x) → (a || b) ≡ true →
    n ≤ x
at-least true b m k n x le le' first second h = let r : m ≤ x = first refl in omega (arith, le, r)
at-least false b m k n x le le' first second h = let r : k ≤ x = second h in omega (arith, le', r)

pub least-or : (p q : CallRec → Bool) (calls : List CallRec) (a b : Option CallNo) → IsLeast p calls a →
    IsLeast q calls b → IsLeast (λ c. p c || q c) calls (lesser a b)
least-or p q calls None None first second =
    all-two _ _ _ calls (λ d e f. neither (p d) (q d) e f) first second
least-or p q calls None (Some n) first second = (
  (second.0.0, second.0.1, or_right (p second.0.0) (q second.0.0) second.0.2),
  all-two _ _ _ calls (λ d e least h. least (either (p d) (q d) h e)) first second.1,
)
least-or p q calls (Some m) None first second = (
  (first.0.0, first.0.1, or_left (p first.0.0) (q first.0.0) first.0.2),
  all-two _ _ _ calls (λ d least f h. least (only-first (p d) (q d) h f)) first.1 second,
)
  where
    only-first : (a b : Bool) → (a || b) ≡ true → b ≡ false → a ≡ true
    only-first true b h e = refl
    only-first false b h e = absurd (cc (h, e))
least-or p q calls (Some m) (Some n) first second = go (nat_le m.0 n.0) refl
  where
    go : (b : Bool) → nat_le m.0 n.0 ≡ b → IsLeast (λ c. p c || q c) calls (cond b (Some m) (Some n))
    go true e =
        let le : m.0 ≤ n.0 = grind arith in (
          (first.0.0, first.0.1, or_left (p first.0.0) (q first.0.0) first.0.2),
          all-two _ _ _ calls
              (λ d f g h. at-least (p d) (q d) m.0 n.0 m.0 d.call.0 (omega arith) le f g h) first.1 second.1,
        )
    go false e =
        let le : n.0 ≤ m.0 = grind arith in (
          (second.0.0, second.0.1, or_right (p second.0.0) (q second.0.0) second.0.2),
          all-two _ _ _ calls
              (λ d f g h. at-least (p d) (q d) m.0 n.0 n.0 d.call.0 le (omega arith) f g h) first.1 second.1,
        )
