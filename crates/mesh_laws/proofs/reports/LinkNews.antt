-- What the news of links tell of a fibre.
use Rattle.std.proofs.{Common.{◌≡◌, ◌<◌, ◌≤◌, ℕ, Bool, true, false, cond, nat_eq, List, [], ◌∷◌, ◌++◌, refl, sym, ap, ◌∙◌, subst, arith, Contains, inl, inr}, lemmas.Bool.and_right}
use Rattle.std.specs.Prelude.{◌||◌, ◌&&◌, flat_map}
use Rattle.ason_base.specs.{Lsps.{same_bool, same_fibre}, Network.touches, declared.commands.DeskItem.DeskItem, declared.commands.Group.Group, declared.ids.Fibre.Fibre, declared.ids.NodeId.NodeId, declared.network.LinkSpec.LinkSpec}
use Rattle.ason_base.proofs.{LinkOrder.LinksRiseAbove, Members.{contains-cases, contains-none}, LspOrder.same_bool-eq}
use Rattle.mesh_rules.specs.{Failures.{changed_news, is_cut, link_news, news, news_at}, LocalNodes.fibre_in}
use Rattle.mesh_nodes.proofs.Cases.{if_cases}
use Rattle.lsp_laws.specs.ReportLaw.{after_item, after_items}
use Rattle.mesh_laws.proofs.reports.OwnLinks.{above-all}

pub items-after : (f : Fibre) (known : Bool) (xs ys : List DeskItem) →
    after_items f known (xs ++ ys) ≡ after_items f (after_items f known xs) ys
items-after f known [] ys = refl
items-after f known (x ∷ xs) ys = items-after f (after_item f known x) xs ys

-- One link

one-news : (same cut known : Bool) (f g : Fibre) → same_fibre f g ≡ same →
    after_item f known (news cut g) ≡ cond same cut known
one-news true true known f g e = rw e refl
one-news false true known f g e = rw e refl
one-news true false known f g e = rw e refl
one-news false false known f g e = rw e refl

news-there : (f g : Fibre) (n receiver : ℕ) (cut known : Bool) →
    after_items f known (news_at n receiver cut g) ≡ cond (nat_eq receiver n && same_fibre f g) cut known
news-there f g n receiver cut known = go (nat_eq receiver n)
  where
    go : (b : Bool) →
        after_items f known (cond b (news cut g ∷ []) []) ≡ cond (b && same_fibre f g) cut known
    go true = one-news (same_fibre f g) cut known f g refl
    go false = refl

-- the fibres of a link
abbrev forwards : LinkSpec → Fibre
forwards l = record { link = l.id; forward = true }

abbrev backwards : LinkSpec → Fibre
backwards l = record { link = l.id; forward = false }

both-news : (f : Fibre) (n : ℕ) (cut known : Bool) (l : LinkSpec) →
    after_items f known (link_news n cut l) ≡ cond (nat_eq l.low.0 n && same_fibre f (backwards l)) cut
    (cond (nat_eq l.high.0 n && same_fibre f (forwards l)) cut known)
both-news f n cut known l =
    items-after f known (news_at n l.high.0 cut (forwards l)) (news_at n l.low.0 cut (backwards l))
    ∙ news-there f (backwards l) n l.low.0 cut (after_items f known (news_at n l.high.0 cut (forwards l)))
    ∙ ap (cond (nat_eq l.low.0 n && same_fibre f (backwards l)) cut)
    (news-there f (forwards l) n l.high.0 cut known)

-- the news of another link tell nothing of the fibre
other-news : (f : Fibre) (n : ℕ) (cut known : Bool) (l : LinkSpec) → nat_eq f.link.0 l.id.0 ≡ false →
    after_items f known (link_news n cut l) ≡ known
other-news f n cut known l apart =
    let back : (nat_eq l.low.0 n && same_fibre f (backwards l)) ≡ false =
    and_right (nat_eq l.low.0 n) (same_fibre f (backwards l)) (rw apart refl) in
    let forth : (nat_eq l.high.0 n && same_fibre f (forwards l)) ≡ false =
    and_right (nat_eq l.high.0 n) (same_fibre f (forwards l)) (rw apart refl) in
    both-news f n cut known l ∙ rw (back, forth) refl

-- and those of its own link tell whether it is cut
own-news : (n : NodeId) (cut known : Bool) (l : LinkSpec) → touches n l ≡ true →
    after_items (fibre_in l n) known (link_news n.0 cut l) ≡ cut
own-news n cut known l end =
    both-news (fibre_in l n) n.0 cut known l
    ∙ go (nat_eq l.low.0 n.0) (nat_eq l.high.0 n.0) (nat_eq l.id.0 l.id.0) (same l.id.0) end
  where
    same : (k : ℕ) → nat_eq k k ≡ true
    same k = grind arith

    go : (low high id : Bool) → id ≡ true → (low || high) ≡ true →
        cond (low && (id && same_bool high false)) cut (cond (high && (id && same_bool high true)) cut known) ≡ cut
    go true true true i e = refl
    go true false true i e = refl
    go false true true i e = refl
    go false false true i e = absurd (cc e)
    go low high false i e = absurd (cc i)

-- All links

module _ (before after : List Group) (n : NodeId) where
  abbrev news-of : List LinkSpec → List DeskItem
  news-of links = flat_map (changed_news before after n.0) links

  changed-other : (f : Fibre) (known : Bool) (l : LinkSpec) → nat_eq f.link.0 l.id.0 ≡ false →
      after_items f known (changed_news before after n.0 l) ≡ known
  changed-other f known l apart =
      if_cases (λ items. after_items f known items ≡ known) (same_bool (is_cut before l) (is_cut after l)) _ _
      (λ e. refl) (λ e. other-news f n.0 (is_cut after l) known l apart)

  changed-own : (l : LinkSpec) → touches n l ≡ true →
      after_items (fibre_in l n) (is_cut before l) (changed_news before after n.0 l) ≡ is_cut after l
  changed-own l end =
      if_cases (λ items. after_items (fibre_in l n) (is_cut before l) items ≡ is_cut after l)
      (same_bool (is_cut before l) (is_cut after l)) _ _ (same_bool-eq (is_cut before l) (is_cut after l))
      (λ e. own-news n (is_cut after l) (is_cut before l) l end)

  apart-later : (a b : ℕ) → a < b → nat_eq a b ≡ false
  apart-later a b less = grind arith

  later-news : (f : Fibre) (known : Bool) (m : ℕ) (links : List LinkSpec) → f.link.0 ≤ m → LinksRiseAbove m links →
      after_items f known (news-of links) ≡ known
  later-news f known m [] most rise = refl
  later-news f known m (l ∷ links) most rise =
      let beyond : f.link.0 < l.id.0 = (let above : m < l.id.0 = rise.0 in omega arith) in
      items-after f known (changed_news before after n.0 l) (news-of links)
      ∙ ap (λ b. after_items f b (news-of links)) (changed-other f known l (apart-later f.link.0 l.id.0 beyond))
      ∙ later-news f known l.id.0 links (omega arith) rise.1

  -- after the news of all links that changed, the fibre into a link's end is known to be down where the link is cut
  pub news-tell : (m : ℕ) (links : List LinkSpec) (l : LinkSpec) → LinksRiseAbove m links → Contains links l →
      touches n l ≡ true → after_items (fibre_in l n) (is_cut before l) (news-of links) ≡ is_cut after l
  news-tell m [] l rise there end = absurd (contains-none l there)
  news-tell m (k ∷ links) l rise there end = elim (contains-cases k l links there) [
    | inl same ↦ subst (λ (x : LinkSpec). after_items (fibre_in x n) (is_cut before x) (news-of (k ∷ links))
        ≡ is_cut after x) same (here (touches-first same))
    | inr later ↦ (
        let beyond : k.id.0 < l.id.0 = above-all k.id.0 links l rise.1 later in
        items-after (fibre_in l n) (is_cut before l) (changed_news before after n.0 k) (news-of links)
        ∙ ap (λ b. after_items (fibre_in l n) b (news-of links))
        (changed-other (fibre_in l n) (is_cut before l) k (apart-earlier k.id.0 l.id.0 beyond))
        ∙ news-tell k.id.0 links l rise.1 later end)
  ]
    where
      apart-earlier : (a b : ℕ) → a < b → nat_eq b a ≡ false
      apart-earlier a b less = grind arith

      touches-first : k ≡ l → touches n k ≡ true
      touches-first same = subst (λ (x : LinkSpec). touches n x ≡ true) (sym same) end

      here : touches n k ≡ true →
          after_items (fibre_in k n) (is_cut before k) (news-of (k ∷ links)) ≡ is_cut after k
      here first =
          items-after (fibre_in k n) (is_cut before k) (changed_news before after n.0 k) (news-of links)
          ∙ ap (λ b. after_items (fibre_in k n) b (news-of links)) (changed-own k first)
          ∙ later-news (fibre_in k n) (is_cut after k) k.id.0 links (omega arith) rise.1
