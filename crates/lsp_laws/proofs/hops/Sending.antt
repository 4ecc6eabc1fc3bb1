-- Where the messages of a rule go, and what a step changes for one LSP.
use Rattle.std.proofs.Common.{◌≡◌, ◌≢◌, ◌<◌, ℕ, suc, true, List, [], ◌∷◌, ◌++◌, refl, sym, ap, ◌∙◌, arith, inl, inr}
use Rattle.std.specs.Prelude.{◌⊎◌, Option}
use Rattle.ason_base.specs.{Network.Network, declared.ids.Lsp.Lsp, declared.ids.NodeId.NodeId, declared.messages.Msg.Msg, declared.tables.Leg.Leg, declared.tables.Out.Out}
use Rattle.ason_base.proofs.Numbers.{self-number}
use Rattle.mesh_rules.specs.{Changes.{Answer, to_node}, Machine.{Mesh, commit, without_first, sent_to}}
use Rattle.lsp_laws.specs.HopLaw.{is_message_of, messages_of, leg_at, mail_between}
use Rattle.lsp_laws.proofs.{hops.Plans.{Plan, hops, node_at, IsPlanRoute, distinct, other}, hops.Tables.leg_after, hops.Views.{leg-here, leg-there, mail-from, mail-else, without-here, without-else}, hops.Chain.is_or_not, hops.Changed.{Changed, IsNext, SendsAlong}}

abbrev pub sent_of_lsp : Lsp → List Out → NodeId → List Msg
sent_of_lsp l outs b = messages_of l (sent_to b.0 outs)

pub sent-first : (l : Lsp) (to : NodeId) (m : Msg) (outs : List Out) → is_message_of l m ≡ true →
    sent_of_lsp l (to_node to m ∷ outs) to ≡ m ∷ sent_of_lsp l outs to
sent-first l to m outs own = rw (self-number to.0, own) refl

pub sent-past : (l : Lsp) (to b : NodeId) (m : Msg) (outs : List Out) → b.0 ≢ to.0 →
    sent_of_lsp l (to_node to m ∷ outs) b ≡ sent_of_lsp l outs b
sent-past l to b m outs ne = rw (other to.0 b.0 (λ e. ne (sym e))) refl

pub sends_none : (l : Lsp) (p : Plan) (j : ℕ) → SendsAlong p j (sent_of_lsp l []) [] []
sends_none l p j = record { to_prev = λ k e. refl; to_next = λ small. refl; goes = λ b. inl refl }

module _ (t : Network) (l : Lsp) (from : NodeId) (p : Plan) (route : IsPlanRoute t from p) where
  -- one message goes back
  pub sends_back : (i : ℕ) (m : Msg) → i < hops p → is_message_of l m ≡ true →
      SendsAlong p (suc i) (sent_of_lsp l (to_node (node_at p i) m ∷ [])) (m ∷ []) []
  sends_back i m small own = record {
    to_prev = λ k e. let q : k ≡ i = omega arith in rw q (sent-first l (node_at p i) m [] own);
    to_next =
        λ more. sent-past l (node_at p i) (node_at p (suc (suc i))) m []
        (distinct t from p route (suc (suc i)) i (omega arith) (omega arith) (omega arith));
    goes = λ b. to b (is_or_not b.0 (node_at p i).0);
  }
    where
      to : (b : NodeId) → (b.0 ≡ (node_at p i).0) ⊎ (b.0 ≢ (node_at p i).0) →
          (sent_of_lsp l (to_node (node_at p i) m ∷ []) b ≡ []) ⊎ IsNext p (suc i) b
      to b (inl e) = inr (inr (i, refl, e))
      to b (inr ne) = inl (sent-past l (node_at p i) b m [] ne)

  -- one message goes on
  pub sends_on : (j : ℕ) (m : Msg) → j < hops p → is_message_of l m ≡ true →
      SendsAlong p j (sent_of_lsp l (to_node (node_at p (suc j)) m ∷ [])) [] (m ∷ [])
  sends_on j m small own = record {
    to_prev =
        λ k e. sent-past l (node_at p (suc j)) (node_at p k) m []
        (distinct t from p route k (suc j) (omega arith) (omega arith) (omega arith));
    to_next = λ more. sent-first l (node_at p (suc j)) m [] own;
    goes = λ b. to b (is_or_not b.0 (node_at p (suc j)).0);
  }
    where
      to : (b : NodeId) → (b.0 ≡ (node_at p (suc j)).0) ⊎ (b.0 ≢ (node_at p (suc j)).0) →
          (sent_of_lsp l (to_node (node_at p (suc j)) m ∷ []) b ≡ []) ⊎ IsNext p j b
      to b (inl e) = inr (inl (small, e))
      to b (inr ne) = inl (sent-past l (node_at p (suc j)) b m [] ne)

  -- the nodes around a place are two
  around : (i : ℕ) → suc i < hops p → (node_at p (suc (suc i))).0 ≢ (node_at p i).0
  around i small = distinct t from p route (suc (suc i)) i (omega arith) (omega arith) (omega arith)

  -- one message goes back, and then one goes on
  pub sends_back_on : (i : ℕ) (m n : Msg) → suc i < hops p → is_message_of l m ≡ true → is_message_of l n ≡ true →
      SendsAlong p (suc i) (sent_of_lsp l (to_node (node_at p i) m ∷ to_node (node_at p (suc (suc i))) n ∷ []))
      (m ∷ []) (n ∷ [])
  sends_back_on i m n small own own' = record {
    to_prev =
        λ k e. let q : k ≡ i =
        omega arith in rw q (sent-first l (node_at p i) m (to_node (node_at p (suc (suc i))) n ∷ []) own ∙ ap
        (λ ms. m ∷ ms) (sent-past l (node_at p (suc (suc i))) (node_at p i) n [] (λ e. around i small (sym e))));
    to_next =
        λ more. sent-past l (node_at p i) (node_at p (suc (suc i))) m (to_node (node_at p (suc (suc i))) n ∷ [])
        (around i small) ∙
        sent-first l (node_at p (suc (suc i))) n [] own';
    goes = λ b. to b (is_or_not b.0 (node_at p i).0) (is_or_not b.0 (node_at p (suc (suc i))).0);
  }
    where
      to : (b : NodeId) → (b.0 ≡ (node_at p i).0) ⊎ (b.0 ≢ (node_at p i).0) →
          (b.0 ≡ (node_at p (suc (suc i))).0) ⊎ (b.0 ≢ (node_at p (suc (suc i))).0) →
          (sent_of_lsp l (to_node (node_at p i) m ∷ to_node (node_at p (suc (suc i))) n ∷ []) b ≡ [])
          ⊎ IsNext p (suc i) b
      to b (inl e) _ = inr (inr (i, refl, e))
      to b (inr ne) (inl e) = inr (inl (small, e))
      to b (inr ne) (inr nf) =
          inl (sent-past l (node_at p i) b m (to_node (node_at p (suc (suc i))) n ∷ []) ne ∙ sent-past l
          (node_at p (suc (suc i))) b n [] nf)

  -- one message goes on, and then one goes back
  pub sends_on_back : (i : ℕ) (n m : Msg) → suc i < hops p → is_message_of l n ≡ true → is_message_of l m ≡ true →
      SendsAlong p (suc i) (sent_of_lsp l (to_node (node_at p (suc (suc i))) n ∷ to_node (node_at p i) m ∷ []))
      (m ∷ []) (n ∷ [])
  sends_on_back i n m small own' own = record {
    to_prev =
        λ k e. let q : k ≡ i =
        omega arith in rw q (sent-past l (node_at p (suc (suc i))) (node_at p i) n (to_node (node_at p i) m ∷ [])
        (λ e. around i small (sym e)) ∙ sent-first l (node_at p i) m [] own);
    to_next =
        λ more. sent-first l (node_at p (suc (suc i))) n (to_node (node_at p i) m ∷ []) own' ∙ ap (λ ms. n ∷ ms)
        (sent-past l (node_at p i) (node_at p (suc (suc i))) m [] (around i small));
    goes = λ b. to b (is_or_not b.0 (node_at p i).0) (is_or_not b.0 (node_at p (suc (suc i))).0);
  }
    where
      to : (b : NodeId) → (b.0 ≡ (node_at p i).0) ⊎ (b.0 ≢ (node_at p i).0) →
          (b.0 ≡ (node_at p (suc (suc i))).0) ⊎ (b.0 ≢ (node_at p (suc (suc i))).0) →
          (sent_of_lsp l (to_node (node_at p (suc (suc i))) n ∷ to_node (node_at p i) m ∷ []) b ≡ [])
          ⊎ IsNext p (suc i) b
      to b (inl e) _ = inr (inr (i, refl, e))
      to b (inr ne) (inl e) = inr (inl (small, e))
      to b (inr ne) (inr nf) =
          inl (sent-past l (node_at p (suc (suc i))) b n (to_node (node_at p i) m ∷ []) nf ∙ sent-past l (node_at p i)
          b m [] ne)

-- A step at d

-- nothing is taken
pub changed-here : (s : Mesh) (d : NodeId) (l : Lsp) (a : Answer) (c : Option Leg) →
    leg_after l a.legs (leg_at s l d) ≡ c →
    Changed d c (sent_of_lsp l a.sent) (leg_at s l) (leg_at (commit s d.0 a) l) (mail_between s l)
    (mail_between (commit s d.0 a) l)
changed-here s d l a c is = record {
  here = leg-here s d l a ∙ is;
  there = λ n ne. leg-there s d n l a ne;
  sends = λ b. mail-from s d b l a;
  keeps = λ x b not_d _. mail-else s d x b l a not_d;
}

-- a message from u is taken
pub changed-taken : (s : Mesh) (u d : NodeId) (l : Lsp) (a : Answer) (c : Option Leg) → u.0 ≢ d.0 →
    leg_after l a.legs (leg_at s l d) ≡ c →
    Changed d c (sent_of_lsp l a.sent) (leg_at s l) (leg_at (commit (without_first s u.0 d.0) d.0 a) l)
    (mail_between s l)
    (mail_between (commit (without_first s u.0 d.0) d.0 a) l)
changed-taken s u d l a c apart is = record {
  here = leg-here (without_first s u.0 d.0) d l a ∙ is;
  there = λ n ne. leg-there (without_first s u.0 d.0) d n l a ne;
  sends =
      λ b. mail-from (without_first s u.0 d.0) d b l a ∙ ap (λ ms. ms ++ sent_of_lsp l a.sent b)
      (without-else s u d d b l (inl (λ e. apart (sym e))));
  keeps = λ x b not_d to. mail-else (without_first s u.0 d.0) d x b l a not_d ∙ without-else s u d x b l (inr to);
}

-- what is left between u and d, and what is under way to d from elsewhere
pub left-taken : (s : Mesh) (u d : NodeId) (l : Lsp) (a : Answer) (m : Msg) (rest : List Msg) → u.0 ≢ d.0 →
    s.mail u.0 d.0 ≡ m ∷ rest → mail_between (commit (without_first s u.0 d.0) d.0 a) l u d ≡ messages_of l rest
left-taken s u d l a m rest apart was =
    mail-else (without_first s u.0 d.0) d u d l a apart ∙ without-here s u d l m rest was

pub elsewhere-taken : (s : Mesh) (u d x b : NodeId) (l : Lsp) (a : Answer) → x.0 ≢ d.0 → (x.0 ≢ u.0) ⊎ (b.0 ≢ d.0) →
    mail_between (commit (without_first s u.0 d.0) d.0 a) l x b ≡ mail_between s l x b
elsewhere-taken s u d x b l a not_d far =
    mail-else (without_first s u.0 d.0) d x b l a not_d ∙ without-else s u d x b l far
