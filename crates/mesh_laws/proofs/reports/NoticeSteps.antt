-- A Notify of an LSP is taken: what its reports tell stays.
use Rattle.std.proofs.{Common.{◌≡◌, ◌≢◌, ◌≤◌, ◌<◌, ℕ, suc, Bool, true, false, cond, nat_eq, [], ◌∷◌, ◌++◌, refl, sym, ap, ◌∙◌, subst, arith, inl, inr, append-nil}, lemmas.List.Elements.filter-append, lemmas.Bool.cases_lt}
use Rattle.std.specs.Prelude.{◌&&◌, ◌⊎◌, map, Some}
use Rattle.ason_base.specs.{Lsps.has_fibre, Network.Network, declared.ids.NodeId.NodeId, declared.tables.CallRec.CallRec, declared.tables.Out.Out}
use Rattle.ason_base.proofs.{Numbers.self-number, JoinedEnds.same-node}
use Rattle.mesh_rules.specs.{Calls.find_call, Changes.{changed, sends, to_node}, Legs.find_leg, Machine.{Mesh, commit, sent_to}}
use Rattle.mesh_nodes.proofs.LegList.{same_lsp-refl}
use Rattle.lsp_laws.specs.{HopLaw.{leg_at, mail_between, messages_of, notices_between, notices_of}, ReportLaw.{is_standing, on_the_way, reports_of, told, told_by_all}}
use Rattle.lsp_laws.proofs.{hops.Chain.is_or_not, hops.Planned.Routes, hops.Plans.{distinct, fibre_at, hops, link_at, node_at}, hops.Views.{notices-else, notices-from}}
use Rattle.mesh_laws.proofs.{reports.Alarmed.told-all-append, reports.GentleWords.{CallOf, RouteTold, Still, Untold, has_plain, is_waiting, line_at, still-then, unreached-still}, reports.Gentle.taken-still, reports.OnTheWay.{passed_on, same_lines}, reports.NoticeTaken.{NoticeCame, line-else, line-taken, none-before, read, says-none}}

module _ (t : Network) (s : Mesh) (o : Routes) (came : NoticeCame t s o) where
  open came use {d, u, l, rest, was, p, pl, r}
  open read t s o came use {m, taken, comes, says}

  -- It is passed back to the node before

  module _ (j' : ℕ) (place : comes.place ≡ suc j') (h : NodeId) (to : h.0 ≡ (node_at p j').0) where
    abbrev passed : Mesh
    passed = commit taken d.0 (sends (to_node h m ∷ []))

    small' : j' < hops p
    small' = let below = comes.below in omega arith

    d-at : d.0 ≡ (node_at p (suc j')).0
    d-at = comes.to ∙ ap (λ x. (node_at p x).0) place

    sent-here : (i : ℕ) → told_by_all (node_at p (suc i)) (link_at p i)
        (notices_of l (sent_to (node_at p j').0 (to_node h m ∷ []))) ≡ says i
    sent-here i =
        let there : nat_eq h.0 (node_at p j').0 ≡ true = rw to (self-number (node_at p j').0) in
        rw (there, same_lsp-refl l) (append-nil (says i))

    -- to any node nothing else is sent
    sent-any : (i : ℕ) → says i ≡ [] → (b : NodeId) → told_by_all (node_at p (suc i)) (link_at p i)
        (notices_of l (sent_to b.0 (to_node h m ∷ []))) ≡ []
    sent-any i none b = go (nat_eq h.0 b.0)
      where
        go : (x : Bool) → told_by_all (node_at p (suc i)) (link_at p i)
            (notices_of l (map (λ (o : Out). o.msg) (cond x (to_node h m ∷ []) []))) ≡ []
        go true = rw (same_lsp-refl l) (append-nil (says i) ∙ none)
        go false = refl

    passed-from : (i : ℕ) (b : NodeId) →
        told_by_all (node_at p (suc i)) (link_at p i) (notices_between passed l d b)
        ≡ told_by_all (node_at p (suc i)) (link_at p i) (notices_between taken l d b)
        ++ told_by_all (node_at p (suc i)) (link_at p i) (notices_of l (sent_to b.0 (to_node h m ∷ [])))
    passed-from i b =
        ap (told_by_all (node_at p (suc i)) (link_at p i))
        (notices-from taken d b l (sends (to_node h m ∷ [])))
        ∙ told-all-append (node_at p (suc i)) (link_at p i) (notices_between taken l d b)
        (notices_of l (sent_to b.0 (to_node h m ∷ [])))

    passed-else : (a b : NodeId) → a.0 ≢ d.0 → notices_between passed l a b ≡ notices_between taken l a b
    passed-else a b apart = notices-else taken d a b l (sends (to_node h m ∷ [])) apart

    nearer : (i : ℕ) → line_at (notices_between passed l) p i j'
        ≡ line_at (notices_between s l) p i j' ++ says i
    nearer i =
        subst (λ (x : NodeId). told_by_all (node_at p (suc i)) (link_at p i)
        (notices_between passed l x (node_at p j'))
        ≡ told_by_all (node_at p (suc i)) (link_at p i) (notices_between taken l x (node_at p j')) ++ says i)
        (same-node d (node_at p (suc j')) d-at)
        (passed-from i (node_at p j') ∙ ap (λ xs. told_by_all (node_at p (suc i)) (link_at p i)
        (notices_between taken l d (node_at p j')) ++ xs) (sent-here i))
        ∙ ap (λ xs. xs ++ says i) (line-else t s o came i j' small' (omega arith))

    far-line : (i x : ℕ) → x < hops p → x ≢ j' →
        line_at (notices_between passed l) p i x ≡ line_at (notices_between taken l) p i x
    far-line i x small apart =
        ap (told_by_all (node_at p (suc i)) (link_at p i))
        (passed-else (node_at p (suc x)) (node_at p x)
        (λ e. distinct t l.ingress p pl.route (suc x) (suc j') (omega arith) (let b = small' in omega arith)
        (omega arith)
        (e ∙ d-at)))

    beyond : (i : ℕ) → line_at (notices_between s l) p i (suc j')
        ≡ says i ++ line_at (notices_between passed l) p i (suc j')
    beyond i =
        subst (λ x. line_at (notices_between s l) p i x ≡ says i ++ line_at (notices_between taken l) p i x) place
        (line-taken t s o came i)
        ∙ ap (λ xs. says i ++ xs) (sym (far-line i (suc j') (let below = comes.below in omega arith) (omega arith)))

    far-both : (i x : ℕ) → x < hops p → x ≢ j' → x ≢ suc j' →
        line_at (notices_between passed l) p i x ≡ line_at (notices_between s l) p i x
    far-both i x small one two =
        far-line i x small one ∙ line-else t s o came i x small (omega arith)

    way-same : (i : ℕ) → i < hops p →
        on_the_way (line_at (notices_between passed l) p i) (suc i)
        ≡ on_the_way (line_at (notices_between s l) p i) (suc i)
    way-same i small = elim (cases_lt j' i) [
      | inl less ↦ passed_on (line_at (notices_between s l) p i) (line_at (notices_between passed l) p i) j' (suc i)
          (suc i) (says i)
          (record {
            beyond = beyond i;
            nearer = nearer i;
            others = λ x one two below. far-both i x (omega arith) one two;
          }) (omega arith) (omega arith)
      | inr most ↦ same_lines (line_at (notices_between s l) p i) (line_at (notices_between passed l) p i) (suc i)
          (λ x less. near i small most x less (is_or_not x j'))
    ]
      where
        near : (i : ℕ) → i < hops p → i ≤ j' → (x : ℕ) → x < suc i → (x ≡ j') ⊎ (x ≢ j') →
            line_at (notices_between passed l) p i x ≡ line_at (notices_between s l) p i x
        near i small most x less (inr apart) = far-both i x (omega arith) apart (omega arith)
        near i small most x less (inl is) =
            let beyond' = comes.names.beyond in
            subst (λ y. line_at (notices_between passed l) p i y ≡ line_at (notices_between s l) p i y) (sym is)
            (nearer i ∙ rw (says-none t s o came i small (omega arith)) (append-nil _))

    call-passed : (c : CallRec) → CallOf passed l c → CallOf s l c
    call-passed c of = record { found = go (nat_eq l.ingress.0 d.0) of.found; named = of.named }
      where
        go : (b : Bool) → find_call c.call
            (cond b (changed (s.nodes l.ingress.0) (sends (to_node h m ∷ []))) (s.nodes l.ingress.0)).calls ≡ Some c →
            find_call c.call (s.nodes l.ingress.0).calls ≡ Some c
        go true found = found
        go false found = found

    legs-still : Still s passed l
    legs-still =
        still-then s taken passed l (taken-still s u d l m rest was)
        (still-sent taken)
      where
        same-leg : (x : Mesh) (n : NodeId) → leg_at (commit x d.0 (sends (to_node h m ∷ []))) l n ≡ leg_at x l n
        same-leg x n = go (nat_eq n.0 d.0)
          where
            go : (b : Bool) →
                find_leg l (cond b (changed (x.nodes n.0) (sends (to_node h m ∷ []))) (x.nodes n.0)).legs
                ≡ find_leg l (x.nodes n.0).legs
            go true = refl
            go false = refl

        mail-same : (x : Mesh) (a b : NodeId) →
            mail_between (commit x d.0 (sends (to_node h m ∷ []))) l a b ≡ mail_between x l a b
        mail-same x a b = go (nat_eq a.0 d.0) (nat_eq h.0 b.0)
          where
            go : (y w : Bool) → messages_of l (cond y (x.mail a.0 b.0 ++ map (λ (o : Out). o.msg)
                (cond w (to_node h m ∷ []) [])) (x.mail a.0 b.0)) ≡ mail_between x l a b
            go false w = refl
            go true w = filter-append _ (x.mail a.0 b.0) (map (λ (o : Out). o.msg)
                (cond w (to_node h m ∷ []) [])) ∙ ap (λ ms. mail_between x l a b ++ ms) (nothing-left w)
                ∙ append-nil _
              where
                nothing-left : (w : Bool) →
                    messages_of l (map (λ (o : Out). o.msg) (cond w (to_node h m ∷ []) [])) ≡ []
                nothing-left true = refl
                nothing-left false = refl

        down-same : (x : Mesh) (n : ℕ) → ((commit x d.0 (sends (to_node h m ∷ []))).nodes n).down ≡ (x.nodes n).down
        down-same x n = go (nat_eq n d.0)
          where
            go : (b : Bool) → (cond b (changed (x.nodes n) (sends (to_node h m ∷ []))) (x.nodes n)).down
                ≡ (x.nodes n).down
            go true = refl
            go false = refl

        still-sent : (x : Mesh) → Still x (commit x d.0 (sends (to_node h m ∷ []))) l
        still-sent x = record {
          stands = λ n e. subst (λ o. is_standing o ≡ true) (same-leg x n) e;
          gone = λ n e. same-leg x n ∙ e;
          first = λ a b e. ap (λ o. is_waiting o && has_plain (mail_between x l a b)) (sym (same-leg x a))
              ∙ ap (λ ms. is_waiting (leg_at (commit x d.0 (sends (to_node h m ∷ []))) l a) && has_plain ms)
              (sym (mail-same x a b)) ∙ e;
          down = down-same x;
        }

    passed-none : (i : ℕ) → Untold t s l p i → (a b : NodeId) →
        told_by_all (node_at p (suc i)) (link_at p i) (notices_between passed l a b) ≡ []
    passed-none i untold a b = elim (is_or_not a.0 d.0) [
      | inr apart ↦ ap (told_by_all (node_at p (suc i)) (link_at p i)) (passed-else a b apart)
          ∙ (none-before t s o came i untold).1 a b
      | inl here ↦ subst (λ (x : NodeId). told_by_all (node_at p (suc i)) (link_at p i)
          (notices_between passed l x b) ≡ []) (sym (same-node a d here))
          (passed-from i b ∙ rw ((none-before t s o came i untold).1 d b)
          (sent-any i (none-before t s o came i untold).0 b))
    ]

    pub passed-told : RouteTold t passed l p
    passed-told = record {
      tells = λ i small stands c of.
          ap (told (has_fibre (reports_of l c) (fibre_at t p i))) (way-same i small)
          ∙ r.tells i small (λ x most. legs-still.stands (node_at p x) (stands x most)) c (call-passed c of)
          ∙ ap (λ ds. has_fibre ds (fibre_at t p i)) (sym (legs-still.down (node_at p (suc i)).0));
      first = unreached-still t s passed l p r legs-still (λ x below untold. record {
        notices = passed-none x untold;
        report = λ c of. untold.report c (call-passed c of);
      });
    }
