-- Taking frames, by numbers: more frames, or a later start, hand up no less.
use Rattle.std.proofs.{Common.{◌≡◌, ◌≤◌, ◌<◌, ◌+◌, ℕ, suc, Bool, true, false, nat_eq, List, [], ◌∷◌, ◌++◌, length, refl, sym, ap, ◌∙◌, subst, arith, append_assoc}, lemmas.List.length-append}
use Rattle.std.specs.{Prelude.{Option, Some, None, ◌||◌}, Option.option_to_list, List.{slice_get, range_with_len}}
use Rattle.flood.specs.{declared.frames.Content.Content, declared.frames.Content.TheVariants.{Message, Flood}}
use Rattle.hop_reliable.specs.{declared.heard.Heard.Heard, declared.heard.Heard.TheVariants.{Acked, Unnumbered, Ahead, Repeat, Next}, Hop.{handed_up_after, heard_body}}
use Rattle.world_rules.specs.Worlds.{numbered_at}
use Rattle.world_merge.proofs.Sendings.{numbered_more}
use Rattle.round_rules.specs.{Rings.is_number_in, Rounds.NumbersRise}
use Rattle.round_laws.specs.Rings.{climb, climb_one, contents_of}

after_least : (h : ℕ) (v : Heard) → h ≤ handed_up_after h v
after_least h Next = omega arith
after_least h Acked = omega arith
after_least h Unnumbered = omega arith
after_least h Ahead = omega arith
after_least h Repeat = omega arith

after_most : (h : ℕ) (v : Heard) → handed_up_after h v ≤ h + 1
after_most h Next = omega arith
after_most h Acked = omega arith
after_most h Unnumbered = omega arith
after_most h Ahead = omega arith
after_most h Repeat = omega arith

climbs : (h : ℕ) (x : Content) → h ≤ climb_one h x
climbs h (Message p) = after_least h (heard_body h p.id p.body)
climbs h (Flood m) = omega arith

one_most : (h : ℕ) (x : Content) → climb_one h x ≤ h + 1
one_most h (Message p) = after_most h (heard_body h p.id p.body)
one_most h (Flood m) = omega arith

-- no frames hand up less
pub climbs_all : (h : ℕ) (xs : List Content) → h ≤ climb h xs
climbs_all h [] = omega arith
climbs_all h (x ∷ xs) = omega (arith, climbs h x, climbs_all (climb_one h x) xs)

-- a later start hands up no less
pub one_more : (h g : ℕ) (x : Content) → h ≤ g → climb_one h x ≤ climb_one g x
one_more h g x le = go (nat_eq h g) refl
  where
    go : (b : Bool) → nat_eq h g ≡ b → climb_one h x ≤ climb_one g x
    go true e = let same : h ≡ g = grind (arith, e) in subst (λ n. climb_one h x ≤ climb_one n x) same (omega arith)
    go false e =
        let above : h < g = grind (arith, e, le) in
        omega (arith, above, one_most h x, climbs g x)

-- after any frames
pub all_more : (h g : ℕ) (xs : List Content) → h ≤ g → climb h xs ≤ climb g xs
all_more h g [] le = le
all_more h g (x ∷ xs) le = all_more (climb_one h x) (climb_one g x) xs (one_more h g x le)

-- some frames, and then others
pub climb-append : (h : ℕ) (xs ys : List Content) → climb h (xs ++ ys) ≡ climb (climb h xs) ys
climb-append h [] ys = refl
climb-append h (x ∷ xs) ys = climb-append (climb_one h x) xs ys

-- what they bear
pub contents-append : (cs : List Content) (ks js : List ℕ) →
    contents_of cs (ks ++ js) ≡ contents_of cs ks ++ contents_of cs js
contents-append cs [] js = refl
contents-append cs (k ∷ ks) js =
    ap (λ xs. option_to_list (numbered_at cs k) ++ xs) (contents-append cs ks js)
    ∙ sym (append_assoc (option_to_list (numbered_at cs k)) (contents_of cs ks) (contents_of cs js))

-- A channel that has more at its end

-- frames that were sent later change nothing of the earlier ones
pub grown : (cs more : List Content) (ks : List ℕ) (h g : ℕ) → h ≤ g →
    climb h (contents_of cs ks) ≤ climb g (contents_of (cs ++ more) ks)
grown cs more [] h g le = le
grown cs more (k ∷ ks) h g le = go (numbered_at cs k) refl (λ h g le. grown cs more ks h g le)
  where
    go : (o : Option Content) → numbered_at cs k ≡ o →
        ((h g : ℕ) → h ≤ g → climb h (contents_of cs ks) ≤ climb g (contents_of (cs ++ more) ks)) →
        climb h (option_to_list o ++ contents_of cs ks) ≤
        climb g (option_to_list (numbered_at (cs ++ more) k) ++ contents_of (cs ++ more) ks)
    go (Some x) is rest =
        subst (λ o. climb h (x ∷ contents_of cs ks) ≤ climb g (option_to_list o ++ contents_of (cs ++ more) ks))
        (sym (numbered_more cs more k x is)) (rest (climb_one h x) (climb_one g x) (one_more h g x le))
    go None is rest =
        let c = climb-append g (option_to_list (numbered_at (cs ++ more) k)) (contents_of (cs ++ more) ks) in
        subst (λ n. climb h (contents_of cs ks) ≤ n) (sym c)
        (rest h (climb g (option_to_list (numbered_at (cs ++ more) k)))
        (omega (arith, le, climbs_all g (option_to_list (numbered_at (cs ++ more) k)))))

-- Fewer numbers

-- each of the numbers is one of the others
abbrev pub AreIn : List ℕ → List ℕ → Type 0
AreIn js ks = (k : ℕ) → is_number_in ks k ≡ true → is_number_in js k ≡ true

-- all that are in a rising list are above what its first is above
pub in_above : (n : ℕ) (ks : List ℕ) → NumbersRise n ks → (k : ℕ) → is_number_in ks k ≡ true → n < k
in_above n [] up k is = absurd (cc (is))
in_above n (j ∷ ks) up k is = go (nat_eq j k) refl is (in_above j ks up.1 k)
  where
    go : (b : Bool) → nat_eq j k ≡ b → (b || is_number_in ks k) ≡ true → (is_number_in ks k ≡ true → j < k) → n < k
    go true e is rest = let same : j ≡ k = grind (arith, e) in subst (λ i. n < i) same up.0
    go false e is rest = omega (arith, up.0, rest is)

head_in : (k : ℕ) (ks : List ℕ) → is_number_in (k ∷ ks) k ≡ true
head_in k ks = let same : nat_eq k k ≡ true = grind arith in ap (λ b. b || is_number_in ks k) same

tail_in : (k : ℕ) (ks : List ℕ) (i : ℕ) → is_number_in ks i ≡ true → is_number_in (k ∷ ks) i ≡ true
tail_in k ks i h = grind (arith, h)

-- in the rest, where it isn't the first
in_tail : (j : ℕ) (js : List ℕ) (i : ℕ) → is_number_in (j ∷ js) i ≡ true → j < i → is_number_in js i ≡ true
in_tail j js i is above =
    let other : nat_eq j i ≡ false = grind (arith, above) in
    sym (ap (λ b. b || is_number_in js i) other) ∙ is

less : (a b c d : ℕ) → a ≤ b → c ≡ a → d ≡ b → c ≤ d
less a b c d le e f = omega (arith, le, e, f)

-- of a channel, frames whose numbers are among those of others hand up no more than those, both in order
pub thinned : (cs : List Content) (js ks : List ℕ) (n m h g : ℕ) → NumbersRise n ks → NumbersRise m js → AreIn js ks →
    h ≤ g → climb h (contents_of cs ks) ≤ climb g (contents_of cs js)
thinned cs js [] n m h g up above are le = omega (arith, le, climbs_all g (contents_of cs js))
thinned cs [] (k ∷ ks) n m h g up above are le = absurd (cc (are k (head_in k ks)))
thinned cs (j ∷ js) (k ∷ ks) n m h g up above are le =
    go (nat_eq j k) refl (λ h g a r le. thinned cs js ks k j h g up.1 above.1 r le)
    (λ g past r le. thinned cs js (k ∷ ks) j j h g (past, up.1) above.1 r le)
  where
    xs : ℕ → List Content
    xs i = option_to_list (numbered_at cs i)

    other : nat_eq j k ≡ false → j < k
    other e =
        let is : is_number_in js k ≡ true = sym (ap (λ b. b || is_number_in js k) e) ∙ are k (head_in k ks) in
        in_above j js above.1 k is

    later : (i : ℕ) → is_number_in (k ∷ ks) i ≡ true → j < k → j < i
    later i is past = in_above j (k ∷ ks) (past, up.1) i is

    go : (b : Bool) → nat_eq j k ≡ b →
        ((h g : ℕ) → j ≡ k → AreIn js ks → h ≤ g → climb h (contents_of cs ks) ≤ climb g (contents_of cs js)) →
        ((g : ℕ) → j < k → AreIn js (k ∷ ks) → h ≤ g → climb h (contents_of cs (k ∷ ks)) ≤ climb g (contents_of cs js)) →
        climb h (xs k ++ contents_of cs ks) ≤ climb g (xs j ++ contents_of cs js)
    go true e both one =
        let same : j ≡ k = grind (arith, e) in
        let rest : AreIn js ks = (λ i is. in_tail j js i (are i (tail_in k ks i is))
        (subst (λ a. a < i) (sym same) (in_above k ks up.1 i is))) in
        let low : climb (climb h (xs k)) (contents_of cs ks) ≤ climb (climb g (xs k)) (contents_of cs js) =
        both (climb h (xs k)) (climb g (xs k)) same rest (all_more h g (xs k) le) in
        subst (λ i. climb h (xs k ++ contents_of cs ks) ≤ climb g (xs i ++ contents_of cs js)) (sym same)
        (less _ _ _ _ low (climb-append h (xs k) (contents_of cs ks)) (climb-append g (xs k) (contents_of cs js)))
    go false e both one =
        let past : j < k = other e in
        let rest : AreIn js (k ∷ ks) = (λ i is. in_tail j js i (are i is) (later i is past)) in
        let low : climb h (xs k ++ contents_of cs ks) ≤ climb (climb g (xs j)) (contents_of cs js) =
        one (climb g (xs j)) past rest (omega (arith, le, climbs_all g (xs j))) in
        less _ _ _ _ low refl (climb-append g (xs j) (contents_of cs js))

-- All numbers beyond those of a channel's front bear its end.

beyond : (cs more : List Content) (k : ℕ) → slice_get (cs ++ more) (length cs + k) ≡ slice_get more k
beyond [] more k = let n : 0 + k ≡ k = omega arith in ap (slice_get more) n
beyond (c ∷ cs) more k =
    let n : suc (length cs) + k ≡ suc (length cs + k) = omega arith in
    ap (slice_get (c ∷ cs ++ more)) n ∙ beyond cs more k

numbered_beyond : (cs : List Content) (x : Content) (more : List Content) →
    numbered_at (cs ++ x ∷ more) (length cs + 1) ≡ Some x
numbered_beyond cs x more =
    let n : length cs + 1 ≡ suc (length cs + 0) = omega arith in
    ap (numbered_at (cs ++ x ∷ more)) n ∙ beyond cs (x ∷ more) 0

-- The frames that came to a channel bear what is at its end.
pub news_are : (cs more : List Content) → contents_of (cs ++ more) (range_with_len (length cs + 1) (length more)) ≡ more
news_are cs [] = refl
news_are cs (x ∷ more) =
    ap (λ o. option_to_list o ++ contents_of (cs ++ x ∷ more) (range_with_len (length cs + 1 + 1) (length more)))
    (numbered_beyond cs x more)
    ∙ ap (λ xs. x ∷ xs) (later (news_are (cs ++ x ∷ []) more))
  where
    later : contents_of ((cs ++ x ∷ []) ++ more) (range_with_len (length (cs ++ x ∷ []) + 1) (length more)) ≡ more →
        contents_of (cs ++ x ∷ more) (range_with_len (length cs + 1 + 1) (length more)) ≡ more
    later again =
        ap (λ ys. contents_of ys (range_with_len (length cs + 1 + 1) (length more))) (sym (append_assoc cs (x ∷ []) more))
        ∙ ap (λ n. contents_of ((cs ++ x ∷ []) ++ more) (range_with_len (n + 1) (length more)))
        (sym (length-append cs (x ∷ []))) ∙ again
