-- No table that a station published or that waits is of a longer log than its own.
use Rattle.std.proofs.{Common.{◌≡◌, ◌≤◌, ◌∙◌, ℕ, List, [], ◌∷◌, ◌++◌, append-nil, append_assoc, refl, sym, ap, subst, inl, inr}, lemmas.Option.same_Some}
use Rattle.std.specs.Prelude.{Result, Ok, Err, OnErr, OnOk, Some}
use Rattle.mgmt_view.specs.{Publishing.{MayWait, PublisherState, with_published}, Tables.{EndsWith, last_in}, declared.node_table.NodeTable.NodeTable}
use Rattle.mgmt_view.proofs.Lasts.{last-snoc}
use Rattle.station.specs.Watched.{TellsUpTo}

-- the table that stands at the end stands last
ends-so : (xs ys all : List NodeTable) (t u : NodeTable) → all ≡ xs ++ (ys ++ t ∷ []) → EndsWith all u → t ≡ u
ends-so xs ys all t u is ends =
    let there : last_in all ≡ Some t =
    ap last_in (is ∙ sym (append_assoc xs ys (t ∷ []))) ∙ last-snoc (xs ++ ys) t in
    same_Some t u (sym there ∙ ends)

no-longer : (t u : NodeTable) (n : ℕ) → t ≡ u → t.entries ≤ n → u.entries ≤ n
no-longer t u n same few = subst (λ (k : NodeTable). k.entries ≤ n) same few

-- after a publish, and where it was refused
pub told-after : {X E : Type 0} (r : Result X E) (p q : PublisherState) (t : NodeTable) (n : ℕ) → TellsUpTo (Some p) n →
    t.entries ≤ n → OnOk r (q ≡ with_published p t) → OnErr r (MayWait p t q) → TellsUpTo (Some q) n
told-after (Ok x) p q t n told few ok err k last is ends =
    let same = same_Some q k is in
    no-longer t last n
    (ends-so p.published p.waiting (k.published ++ k.waiting) t last
    (ap (λ (s : PublisherState). s.published ++ s.waiting) (sym same ∙ ok)
    ∙ append-nil (p.published ++ (p.waiting ++ t ∷ []))) ends) few
told-after (Err x) p q t n told few ok err k last is ends =
    elim err.waiting [
      | inl same ↦ told p last refl
          (subst (λ all. EndsWith all last) (ap (λ (s : PublisherState). s.published ++ s.waiting) (sym it)
          ∙ (λ i. err.published i ++ same i)) ends)
      | inr more ↦ no-longer t last n
          (ends-so p.published p.waiting (k.published ++ k.waiting) t last
          (ap (λ (s : PublisherState). s.published ++ s.waiting) (sym it) ∙ (λ i. err.published i ++ more i)) ends) few
    ]
  where
    it : q ≡ k
    it = same_Some q k is
