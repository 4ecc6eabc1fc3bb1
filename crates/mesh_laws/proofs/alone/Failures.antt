-- Where some groups alone fail and are repaired, nodes are told of fibres of their links alone.
use Rattle.std.proofs.{Common.{◌≡◌, ℕ, Bool, true, false, not, nat_eq, List, [], ◌∷◌, ◌++◌, map, refl, Contains}, ByRecursion.All-append}
use Rattle.std.specs.{Prelude.{◌||◌, Some}, List.{AllByRecursion, flat_map, list_any}}
use Rattle.ason_base.specs.{Lsps.same_bool, Network.{Network, find_link, is_distinct}, declared.commands.Command.Command, declared.commands.Command.TheVariants.{Setup, Release, Protect, Retry, Revert, Fail, Repair}, declared.commands.DeskItem.TheVariants.Order, declared.commands.Group.Group, declared.ids.Fibre.Fibre, declared.network.LinkSpec.LinkSpec}
use Rattle.ason_base.proofs.{Ordered.there-any, Members.{contains-head, contains-tail, all-filter}}
use Rattle.mesh_rules.specs.{declared.events.MeshEvent.TheVariants.Post, Events.posted, Failures.{all_news, changed_news, has_group, is_cut, is_risk_of, link_news, news, news_at, same_group, with_failed, with_group, without_group}, Machine.{Mesh, with_item}}
use Rattle.mesh_nodes.proofs.{Cases.if_cases, routes.Nodes.found-link}
use Rattle.mesh_laws.proofs.{alone.Facts.LspRoutes, alone.Fine.MeshHolds, alone.Groups.{FailsOnlyGroups, FibreConcernsGroups, ItemConcernsGroups, any_on_link}}

module _ (t : Network) (gs : List Group) where
  -- each of the groups is one of these
  abbrev pub AreThese : List Group → Type 0
  AreThese groups = AllByRecursion (Contains gs) groups

  -- a link is cut by these groups alone
  pub cut-by : (failed : List Group) (l : LinkSpec) → AreThese failed → is_cut failed l ≡ true →
      list_any (is_risk_of l) gs ≡ true
  cut-by [] l all e = absurd (cc e)
  cut-by (h ∷ failed) l all e = go (is_risk_of l h) refl e (cut-by failed l all.1)
    where
      go : (b : Bool) → is_risk_of l h ≡ b → (b || is_cut failed l) ≡ true →
          (is_cut failed l ≡ true → list_any (is_risk_of l) gs ≡ true) → list_any (is_risk_of l) gs ≡ true
      go true test e later = there-any (is_risk_of l) gs h all.0 test
      go false test e later = later e

  changed-by : (before later : List Group) (l : LinkSpec) → AreThese before → AreThese later →
      same_bool (is_cut before l) (is_cut later l) ≡ false → list_any (is_risk_of l) gs ≡ true
  changed-by before later l all all' differ = go (is_cut before l) (is_cut later l) refl refl differ
    where
      go : (a b : Bool) → is_cut before l ≡ a → is_cut later l ≡ b → same_bool a b ≡ false →
          list_any (is_risk_of l) gs ≡ true
      go true b p q e = cut-by before l all p
      go false true p q e = cut-by later l all' q
      go false false p q e = absurd (cc e)

  -- News

  news-concern : (cut : Bool) (f : Fibre) → FibreConcernsGroups t gs f → ItemConcernsGroups t gs (news cut f)
  news-concern true f of = of
  news-concern false f of = of

  news_at-concern : (n receiver : ℕ) (cut : Bool) (f : Fibre) → FibreConcernsGroups t gs f →
      AllByRecursion (ItemConcernsGroups t gs) (news_at n receiver cut f)
  news_at-concern n receiver cut f of =
      if_cases (AllByRecursion (ItemConcernsGroups t gs)) (nat_eq receiver n) (news cut f ∷ []) []
      (λ e. (news-concern cut f of, tt)) (λ e. tt)

  module _ (distinct : is_distinct (map (λ l. l.id.0) t.links) ≡ true) where
    changed-concern : (before later : List Group) (n : ℕ) (l : LinkSpec) → Contains t.links l → AreThese before →
        AreThese later → AllByRecursion (ItemConcernsGroups t gs) (changed_news before later n l)
    changed-concern before later n l there all all' =
        if_cases (AllByRecursion (ItemConcernsGroups t gs)) (same_bool (is_cut before l) (is_cut later l)) []
        (link_news n (is_cut later l) l) (λ e. tt)
        (λ e.
        let found : find_link t l.id ≡ Some l = found-link t.links l distinct there in
        let on : any_on_link t gs l.id ≡ true = rw found (changed-by before later l all all' e) in
        All-append (ItemConcernsGroups t gs)
        (news_at n l.high.0 (is_cut later l) (record { link = l.id; forward = true })) _
        (news_at-concern n l.high.0 (is_cut later l) (record { link = l.id; forward = true }) on)
        (news_at-concern n l.low.0 (is_cut later l) (record { link = l.id; forward = false }) on))

    all-concern : (before later : List Group) (n : ℕ) (links : List LinkSpec) →
        ((l : LinkSpec) → Contains links l → Contains t.links l) → AreThese before → AreThese later →
        AllByRecursion (ItemConcernsGroups t gs) (flat_map (changed_news before later n) links)
    all-concern before later n [] within all all' = tt
    all-concern before later n (l ∷ links) within all all' =
        All-append (ItemConcernsGroups t gs) (changed_news before later n l) _
        (changed-concern before later n l (within l (contains-head l links)) all all')
        (all-concern before later n links (λ m there. within m (contains-tail l m links there)) all all')

    -- Posts

    module _ (o : LspRoutes) where
      failed-holds : (s : Mesh) (later : List Group) → AreThese later → MeshHolds t gs o s →
          MeshHolds t gs o (with_failed t s later)
      failed-holds s later all' old = record {
        nodes = old.nodes;
        desks = λ n. All-append (ItemConcernsGroups t gs) (s.desks n) (all_news t s.failed later n) (old.desks n)
            (all-concern s.failed later n t.links (λ l there. there) old.failed all');
        mail = old.mail;
        failed = all';
      }

      ordered-holds : (s : Mesh) (n : ℕ) (c : Command) → MeshHolds t gs o s → MeshHolds t gs o (with_item s n (Order c))
      ordered-holds s n c old = record {
        nodes = old.nodes;
        desks = λ m. if_cases (AllByRecursion (ItemConcernsGroups t gs)) (nat_eq m n) (s.desks m ++ Order c ∷ [])
            (s.desks m)
            (λ e. All-append (ItemConcernsGroups t gs) (s.desks m) (Order c ∷ []) (old.desks m) (tt, tt))
            (λ e. old.desks m);
        mail = old.mail;
        failed = old.failed;
      }

      more : (h : Group) (groups : List Group) → Contains gs h → AreThese groups → AreThese (with_group h groups)
      more h groups is all =
          if_cases AreThese (has_group groups h) groups (groups ++ h ∷ []) (λ e. all)
          (λ e. All-append (Contains gs) groups (h ∷ []) all (is, tt))

      -- whatever is posted, where no other group fails
      pub posted-holds : (s : Mesh) (c : Command) → FailsOnlyGroups gs (Post c) → MeshHolds t gs o s →
          MeshHolds t gs o (posted t s c)
      posted-holds s (Setup n from to protected both via backup) only old =
          let after = ordered-holds s from.0 (Setup n from to protected both via backup) old in
          record { nodes = after.nodes; desks = after.desks; mail = after.mail; failed = after.failed }
      posted-holds s (Release n from) only old = ordered-holds s from.0 (Release n from) old
      posted-holds s (Protect n from) only old = ordered-holds s from.0 (Protect n from) old
      posted-holds s (Retry n from) only old = ordered-holds s from.0 (Retry n from) old
      posted-holds s (Revert n from) only old = ordered-holds s from.0 (Revert n from) old
      posted-holds s (Fail h) only old =
          failed-holds s (with_group h s.failed) (more h s.failed only old.failed) old
      posted-holds s (Repair h) only old =
          failed-holds s (without_group h s.failed)
          (all-filter (Contains gs) (λ k. not (same_group h k)) s.failed old.failed) old
