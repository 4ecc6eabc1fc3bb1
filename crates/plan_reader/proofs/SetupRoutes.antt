-- The routes of a setup: a backup route is that of a protected call, and routes without a fault lead as commands ask.
use Rattle.std.proofs.{Common.{◌≡◌, ◌+◌, ◌⊎◌, inl, inr, ℕ, Bool, true, false, ◌||◌, cond, not, List, Ok, refl, sym, ap, ◌∙◌, subst}, Math.Bool.or-true, lemmas.Bool.not-false}
use Rattle.std.specs.Prelude.{◌==◌, ◌&&◌, Option, Some, None, codes, length}
use Rattle.ason_base.specs.{Network.Network, declared.ids.NodeId.NodeId, declared.steps.Step.Step}
use Rattle.mesh_rules.specs.Commands.{has_backup_way, has_way, is_searchable}
use Rattle.plan_reader.specs.{declared.forms.SetupForm.SetupForm, declared.setups.RouteIds.RouteIds, declared.setups.Routes.Routes, PlanForms.{directions_from, form, is_route_word, is_word, routes_from, setup_form}, PlanSetups.{good_routes, ids_at, is_backed, leads, route_ids, steps_given}}
use Rattle.plan_reader.proofs.Entries.{both_read, passed}

-- a backup route is that of a protected call
abbrev pub BacksProtected : {A : Type 0} → Bool → Option A → Type 0
BacksProtected protected backup = (protected ≡ true) ⊎ (backup ≡ None)

routes_back : (ws : List (List ℕ)) (k : ℕ) (p both : Bool) (f : SetupForm) → routes_from ws k p both ≡ Some f →
    BacksProtected f.protected f.backup
routes_back ws k p both f h =
    go (length ws == k) (length ws == k + 2 && is_route_word ws k (codes "via"))
    (length ws == k + 4 && (is_route_word ws k (codes "via") && is_route_word ws (k + 2) (codes "backup"))) p h
  where
    Backs : SetupForm → Type 0
    Backs g = BacksProtected g.protected g.backup

    go : (a b c p : Bool) → cond a (Some (form p both None None)) (cond b (Some (form p both (Some (k + 1)) None))
        (cond (p && c) (Some (form p both (Some (k + 1)) (Some (k + 3)))) None)) ≡ Some f → Backs f
    go true b c p e = let same : form p both None None ≡ f = cc (e) in subst Backs same (inr refl)
    go false true c p e = let same : form p both (Some (k + 1)) None ≡ f = cc (e) in subst Backs same (inr refl)
    go false false true true e =
        let same : form true both (Some (k + 1)) (Some (k + 3)) ≡ f = cc (e) in subst Backs same (inl refl)
    go false false true false e = absurd (cc (e))
    go false false false true e = absurd (cc (e))
    go false false false false e = absurd (cc (e))

directions_back : (w : Bool) (ws : List (List ℕ)) (k : ℕ) (p : Bool) (f : SetupForm) →
    directions_from w ws k p ≡ Some f → BacksProtected f.protected f.backup
directions_back w ws k p f h = go (w && is_word ws k (codes "both")) h
  where
    go : (b : Bool) → cond b (routes_from ws (k + 1) p true) (routes_from ws k p false) ≡ Some f →
        BacksProtected f.protected f.backup
    go true e = routes_back ws (k + 1) p true f e
    go false e = routes_back ws k p false f e

pub form_backs_protected : (w : Bool) (ws : List (List ℕ)) (f : SetupForm) → setup_form w ws ≡ Some f →
    BacksProtected f.protected f.backup
form_backs_protected w ws f h = go (is_word ws 0 (codes "setup")) (is_word ws 4 (codes "unprotected")) h
  where
    go : (a b : Bool) → cond (not a) None (cond b (directions_from w ws 5 false)
        (directions_from w ws 4 true)) ≡ Some f →
        BacksProtected f.protected f.backup
    go false b e = absurd (cc (e))
    go true true e = directions_back w ws 5 false f e
    go true false e = directions_back w ws 4 true f e

backup_ids :
    (ws : List (List ℕ)) (f : SetupForm) (ids : RouteIds) → route_ids ws f ≡ Ok ids
    → ids_at ws f.backup ≡ Ok ids.backup
backup_ids ws f ids h =
    let via = both_read (ids_at ws f.via) _ ids h in
    let backup = both_read (ids_at ws f.backup) _ ids via.2 in
    let same : ids ≡ record { via = via.0; backup = backup.0 } = cc (backup.2) in
    backup.1 ∙ ap (λ (i : RouteIds). Ok i.backup) (sym same)

none_given :
    (t : Network) (from : NodeId) (ws : List (List ℕ)) (place : Option ℕ) (ids : Option (List ℕ))
    → ids_at ws place ≡ Ok ids → place ≡ None → steps_given t from ids ≡ None
none_given t from ws None ids h e =
    let same : None ≡ ids = cc (h) in subst (λ (i : Option (List ℕ)). steps_given t from i ≡ None) same refl
none_given t from ws (Some k) ids h e = absurd (cc (e))

pub steps_back_protected :
    (t : Network) (from : NodeId) (ws : List (List ℕ)) (f : SetupForm) (ids : RouteIds)
    → BacksProtected f.protected f.backup → route_ids ws f ≡ Ok ids
    → BacksProtected f.protected (steps_given t from ids.backup)
steps_back_protected t from ws f ids (inl protected) h = inl protected
steps_back_protected t from ws f ids (inr none) h =
    inr (none_given t from ws f.backup ids.backup (backup_ids ws f ids h) none)

-- a route that is given leads there; where none is given, the ingress can search for one
pub way :
    (t : Network) (from to : NodeId) (via : Option (List Step)) → is_searchable t ≡ true → leads t from to via ≡ true
    → has_way t from to via ≡ true
way t from to None searchable h = searchable
way t from to (Some route) searchable h = h

-- the same of a backup route, which stands beside the working route
pub backup_way :
    (t : Network) (from to : NodeId) (protected : Bool) (via backup : Option (List Step)) → is_searchable t ≡ true
    → BacksProtected protected backup → is_backed t from to via backup ≡ true
    → has_backup_way t from to protected via backup ≡ true
backup_way t from to protected via None searchable backs h = rw searchable (or-true (not protected))
backup_way t from to protected via (Some route) searchable (inl is) h = rw (is, h) refl
backup_way t from to protected via (Some route) searchable (inr none) h = absurd (cc (none))

first_leads : (a b : Bool) → (not a || not b) ≡ false → a ≡ true
first_leads true b h = refl
first_leads false b h = absurd (cc (h))

pub record AreGood (t : Network) (from to : NodeId) (via backup : Option (List Step)) (routes : Routes) : Type 0 where
  pub led : leads t from to via ≡ true
  pub backed : is_backed t from to via backup ≡ true
  pub same : record { via = via; backup = backup } ≡ routes

pub good_are :
    (t : Network) (from to : NodeId) (via backup : Option (List Step)) (routes : Routes)
    → good_routes t from to via backup ≡ Ok routes → AreGood t from to via backup routes
good_are t from to via backup routes h =
    let led = passed (not (leads t from to via) || not (leads t from to backup)) _ _ _ h in
    let backed = passed (not (is_backed t from to via backup)) _ _ _ led.1 in
    record {
      led = first_leads _ _ led.0;
      backed = not-false _ backed.0;
      same = cc (backed.1);
    }
