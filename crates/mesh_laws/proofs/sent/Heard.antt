-- What the sender of a fibre's labels has heard from the node at the other end, message by message.
use Rattle.std.proofs.Common.{◌≡◌, ℕ, Bool, true, false, cond, List, [], ◌∷◌, ◌++◌, refl, sym, ap, subst, ◌∙◌, inl, inr, append-nil}
use Rattle.std.specs.Prelude.{◌⊎◌, ◌||◌}
use Rattle.ason_base.specs.{declared.ids.Fibre.Fibre, declared.ids.Lsp.Lsp, declared.messages.Msg.Msg, declared.messages.Msg.TheVariants.{Path, Resv, PathTear, PathErr, Notify}, Lsps.same_lsp}
use Rattle.lsp_laws.specs.HopLaw.{is_message_of, lsp_of, messages_of}
use Rattle.mesh_laws.specs.HeardLaw.{IsMailLawful, brings, heard, heard_one, lets_go}

-- More before, more after

one-more : (f : Fibre) (x : ℕ) (l : Lsp) (m : Msg) (a b : Bool) → (a ≡ true → b ≡ true) →
    heard_one f x l m a ≡ true → heard_one f x l m b ≡ true
one-more f x l m a b le h = go (same_lsp (lsp_of m) l) (lets_go m) (brings f x m) a b le h
  where
    go : (s g n a b : Bool) → (a ≡ true → b ≡ true) → cond s (cond g false (n || a)) a ≡ true →
        cond s (cond g false (n || b)) b ≡ true
    go true true n a b le h = h
    go true false true a b le h = refl
    go true false false a b le h = le h
    go false g n a b le h = le h

-- who may send more before, may send more afterwards
pub heard-more : (f : Fibre) (x : ℕ) (l : Lsp) (ms : List Msg) (a b : Bool) → (a ≡ true → b ≡ true) →
    heard f x l ms a ≡ true → heard f x l ms b ≡ true
heard-more f x l [] a b le h = le h
heard-more f x l (m ∷ ms) a b le h = heard-more f x l ms _ _ (one-more f x l m a b le) h

-- one list after the other
pub heard-append : (f : Fibre) (x : ℕ) (l : Lsp) (ms ns : List Msg) (b : Bool) →
    heard f x l (ms ++ ns) b ≡ heard f x l ns (heard f x l ms b)
heard-append f x l [] ns b = refl
heard-append f x l (m ∷ ms) ns b = heard-append f x l ms ns (heard_one f x l m b)

-- Messages of which none lets go, and of which none brings a label

abbrev pub NoneLetsGo : List Msg → Type 0
NoneLetsGo [] = Unit {0}
NoneLetsGo (m ∷ ms) = (lets_go m ≡ false) × NoneLetsGo ms

abbrev pub NoneBrings : Fibre → ℕ → List Msg → Type 0
NoneBrings f x [] = Unit {0}
NoneBrings f x (m ∷ ms) = (brings f x m ≡ false) × NoneBrings f x ms

keeps-one : (f : Fibre) (x : ℕ) (l : Lsp) (m : Msg) (b : Bool) → lets_go m ≡ false → b ≡ true →
    heard_one f x l m b ≡ true
keeps-one f x l m b stays h = go (same_lsp (lsp_of m) l) (lets_go m) (brings f x m) stays
  where
    go : (s g n : Bool) → g ≡ false → cond s (cond g false (n || b)) b ≡ true
    go true true n e = absurd (cc e)
    go true false true e = refl
    go true false false e = h
    go false g n e = h

-- where none lets go, what may be sent stays so
pub heard-keeps : (f : Fibre) (x : ℕ) (l : Lsp) (ms : List Msg) (b : Bool) → NoneLetsGo ms → b ≡ true →
    heard f x l ms b ≡ true
heard-keeps f x l [] b none h = h
heard-keeps f x l (m ∷ ms) b none h = heard-keeps f x l ms _ none.1 (keeps-one f x l m b none.0 h)

was-one : (f : Fibre) (x : ℕ) (l : Lsp) (m : Msg) (b : Bool) → brings f x m ≡ false → heard_one f x l m b ≡ true →
    b ≡ true
was-one f x l m b none h = go (same_lsp (lsp_of m) l) (lets_go m) (brings f x m) none h
  where
    go : (s g n : Bool) → n ≡ false → cond s (cond g false (n || b)) b ≡ true → b ≡ true
    go true true n e h = absurd (cc h)
    go true false true e h = absurd (cc e)
    go true false false e h = h
    go false g n e h = h

-- where none brings a label, what may be sent might be before
pub heard-was : (f : Fibre) (x : ℕ) (l : Lsp) (ms : List Msg) (b : Bool) → NoneBrings f x ms →
    heard f x l ms b ≡ true → b ≡ true
heard-was f x l [] b none h = h
heard-was f x l (m ∷ ms) b none h = was-one f x l m b none.0 (heard-was f x l ms _ none.1 h)

-- Cuts

lets-later : (xs ys : List Msg) → NoneLetsGo (xs ++ ys) → NoneLetsGo ys
lets-later [] ys h = h
lets-later (x ∷ xs) ys h = lets-later xs ys h.1

brings-first : (f : Fibre) (x : ℕ) (xs ys : List Msg) → NoneBrings f x (xs ++ ys) → NoneBrings f x xs
brings-first f x [] ys h = tt
brings-first f x (m ∷ xs) ys h = (h.0, brings-first f x xs ys h.1)

-- a cut of a list that goes on: it lies in the first part, or at its end or later
pub data CutOf (ms new before since : List Msg) : Type 0 where
  Within : (left : List Msg) → before ++ left ≡ ms → CutOf ms new before since
  Beyond : (some : List Msg) → before ≡ ms ++ some → some ++ since ≡ new → CutOf ms new before since

tail : (m n : Msg) (xs ys : List Msg) → m ∷ xs ≡ n ∷ ys → xs ≡ ys
tail m n xs ys e = cc e

head : (m n : Msg) (xs ys : List Msg) → m ∷ xs ≡ n ∷ ys → m ≡ n
head m n xs ys e = cc e

cut-longer : (m n : Msg) (ms new before since : List Msg) → m ≡ n → CutOf ms new before since →
    CutOf (n ∷ ms) new (m ∷ before) since
cut-longer m n ms new before since e (Within left is) = Within left (λ i. e i ∷ is i)
cut-longer m n ms new before since e (Beyond some is more) = Beyond some (λ i. e i ∷ is i) more

-- and it is one of the two
pub cut : (ms new before since : List Msg) → before ++ since ≡ ms ++ new → CutOf ms new before since
cut [] new before since e = Beyond before refl e
cut (n ∷ ms) new [] since e = Within (n ∷ ms) refl
cut (n ∷ ms) new (m ∷ before) since e =
    cut-longer m n ms new before since (head m n _ _ e) (cut ms new before since (tail m n _ _ e))

-- The steps

-- the first message is heard, and what the LSPs send afterwards is no more than that
pub lawful-heard : (Share : Lsp → Lsp → Type 0) (f : Fibre) (x : ℕ) (b b' : Lsp → Bool) (m : Msg) (ms : List Msg) →
    IsMailLawful Share f x b (m ∷ ms) → ((l : Lsp) → b' l ≡ true → heard_one f x l m (b l) ≡ true) →
    IsMailLawful Share f x b' ms
lawful-heard Share f x b b' m ms lawful le before since is l k at_l at_k =
    lawful (m ∷ before) since (ap (λ xs. m ∷ xs) is) l k (heard-more f x l before (b' l) _ (le l) at_l)
    (heard-more f x k before (b' k) _ (le k) at_k)

-- nothing is heard, and no LSP sends more than it did
pub lawful-less : (Share : Lsp → Lsp → Type 0) (f : Fibre) (x : ℕ) (b b' : Lsp → Bool) (ms : List Msg) →
    IsMailLawful Share f x b ms → ((l : Lsp) → b' l ≡ true → b l ≡ true) → IsMailLawful Share f x b' ms
lawful-less Share f x b b' ms lawful le before since is l k at_l at_k =
    lawful before since is l k (heard-more f x l before (b' l) _ (le l) at_l)
    (heard-more f x k before (b' k) _ (le k) at_k)

-- Messages are put at the end: none of them lets go, or none brings a label. Who may send the label once all are heard,
-- shares it.
pub lawful-sent : (Share : Lsp → Lsp → Type 0) (f : Fibre) (x : ℕ) (b : Lsp → Bool) (ms new : List Msg) →
    IsMailLawful Share f x b ms → NoneLetsGo new ⊎ NoneBrings f x new →
    ((l m : Lsp) → heard f x l (ms ++ new) (b l) ≡ true → heard f x m (ms ++ new) (b m) ≡ true → (l ≡ m) ⊎ Share l m) →
    IsMailLawful Share f x b (ms ++ new)
lawful-sent Share f x b ms new lawful kind all before since is l k at_l at_k =
    go kind (cut ms new before since is)
  where
    go : NoneLetsGo new ⊎ NoneBrings f x new → CutOf ms new before since → (l ≡ k) ⊎ Share l k
    go either (Within left e) = lawful before left e l k at_l at_k
    go (inl stay) (Beyond some e more) = all l k (later l at_l) (later k at_k)
      where
        later : (n : Lsp) → heard f x n before (b n) ≡ true → heard f x n (ms ++ new) (b n) ≡ true
        later n h =
            let end = lets-later some since (rw more stay) in
            let all_heard : heard f x n since (heard f x n before (b n)) ≡ true = heard-keeps f x n since _ end h in
            subst (λ xs. heard f x n xs (b n) ≡ true) is (heard-append f x n before since (b n) ∙ all_heard)
    go (inr none) (Beyond some e more) =
        lawful ms [] (append-nil ms) l k (earlier l at_l) (earlier k at_k)
      where
        earlier : (n : Lsp) → heard f x n before (b n) ≡ true → heard f x n ms (b n) ≡ true
        earlier n h =
            let first = brings-first f x some since (rw more none) in
            let split : heard f x n some (heard f x n ms (b n)) ≡ true =
            sym (heard-append f x n ms some (b n)) ∙ subst (λ xs. heard f x n xs (b n) ≡ true) e h in
            heard-was f x n some _ first split

-- Of one LSP

none-of : (f : Fibre) (x : ℕ) (l : Lsp) (m : Msg) (b : Bool) → is_message_of l m ≡ false → heard_one f x l m b ≡ b
none-of f x l (Path k e n route set up r) b h = go (same_lsp k l) h
  where
    go : (s : Bool) → s ≡ false → cond s ((brings f x (Path k e n route set up r)) || b) b ≡ b
    go true e = absurd (cc e)
    go false e = refl
none-of f x l (Resv k e n y) b h = go (same_lsp k l) h
  where
    go : (s : Bool) → s ≡ false → cond s ((brings f x (Resv k e n y)) || b) b ≡ b
    go true e = absurd (cc e)
    go false e = refl
none-of f x l (PathTear k e n) b h = go (same_lsp k l)
  where
    go : (s : Bool) → cond s b b ≡ b
    go true = refl
    go false = refl
none-of f x l (PathErr k e at gone code) b h = go (same_lsp k l) h
  where
    go : (s : Bool) → s ≡ false → cond s (cond gone false b) b ≡ b
    go true e = absurd (cc e)
    go false e = refl
none-of f x l (Notify k e at n code) b h = go (same_lsp k l)
  where
    go : (s : Bool) → cond s b b ≡ b
    go true = refl
    go false = refl

-- of a list an LSP hears its own messages
pub heard-own : (f : Fibre) (x : ℕ) (l : Lsp) (ms : List Msg) (b : Bool) →
    heard f x l ms b ≡ heard f x l (messages_of l ms) b
heard-own f x l [] b = refl
heard-own f x l (m ∷ ms) b = go (is_message_of l m) refl (λ c. heard-own f x l ms c)
  where
    go : (s : Bool) → is_message_of l m ≡ s → ((c : Bool) → heard f x l ms c ≡ heard f x l (messages_of l ms) c) →
        heard f x l ms (heard_one f x l m b) ≡ heard f x l (cond s (m ∷ messages_of l ms) (messages_of l ms)) b
    go true e more = more (heard_one f x l m b)
    go false e more = rw (none-of f x l m b e) (more b)
