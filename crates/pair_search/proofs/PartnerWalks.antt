-- Walks over the rows that a partner of a route may use are its partners, and the other way round.
use Rattle.std.proofs.Common.{◌≡◌, ℕ, Bool, List, [], ◌∷◌, Some, sym, ◌∙◌, subst, inl, inr, Contains}
use Rattle.ason_base.specs.{Walks.{HaveDistinctLinks, WalkStep, IsBackup, IsInner, IsWalk, NoLink, NoNode}, declared.ids.LinkId.LinkId, declared.ids.NodeId.NodeId, declared.network.TeRow.TeRow, declared.steps.Step.Step}
use Rattle.ason_base.proofs.Members.{contains-cases, contains-head, contains-tail, contains-none}
use Rattle.route_least.specs.{Answers.{IsLeastFound, JoinsNone}, Network.IsClosed, declared.answers.Found.Found}
use Rattle.route_least.proofs.Bans.{fewer_walk}
use Rattle.mesh_nodes.proofs.routes.Walked.{one_row}
use Rattle.pair_search.specs.{Certificates.{AreBounds, MayPartner, bound_at}, Checks.may_partner, Searches.{AreEndBounds, IsPartner, Search, closed_rows}}
use Rattle.pair_search.proofs.{Bounds.{bound-there, end-bounds, may-open, open-may, walk-back}, Partner.{is-partner, partner-is}, Right.{comes-to, partner-may}}

-- each step of a walk goes over a row
step-hop : (rows : List TeRow) (L : LinkId → Type 0) (N : NodeId → Type 0) (b : NodeId) (steps : List Step)
    (a : NodeId) (cost : ℕ) → IsWalk rows L N a b steps cost → (s : Step) → Contains steps s →
    (row : TeRow) × (x : NodeId) × (y : NodeId) × WalkStep rows L N x s row y
step-hop rows L N b [] a cost walk s there = absurd (contains-none s there)
step-hop rows L N b (t ∷ steps) a cost walk s there = elim (contains-cases t s steps there) [
  | inl is ↦ (walk.0, a, walk.1, subst (λ (z : Step). WalkStep rows L N a z walk.0 walk.1) is walk.3)
  | inr later ↦ step-hop rows L N b steps walk.1 walk.2 walk.4 s later
]

module _ (search : Search) (distinct : HaveDistinctLinks search.rows) (done : List Step) where
  abbrev rows : List TeRow
  rows = search.rows

  abbrev closed : List Bool
  closed = closed_rows search done

  one : (a b : TeRow) → Contains rows a → Contains rows b → a.link ≡ b.link → a ≡ b
  one = one_row rows distinct

  partner-open : (row : TeRow) → Contains rows row → MayPartner rows done search.from search.to row →
      ¬ IsClosed rows closed row.link
  partner-open row known may = may-open rows one (may_partner rows done search.from search.to) row known
      (is-partner rows one search.from search.to done row known may)

  open-partner : (row : TeRow) → Contains rows row → ¬ IsClosed rows closed row.link →
      MayPartner rows done search.from search.to row
  open-partner row known free = partner-is rows one search.from search.to done row known
      (open-may rows one (may_partner rows done search.from search.to) row known free)

  open-backup : (route : List Step) (cost : ℕ) →
      IsWalk rows (IsClosed rows closed) (Contains []) search.from search.to route cost →
      IsBackup rows done search.from search.to route cost
  open-backup route cost walk = record {
    walk = fewer_walk rows (IsClosed rows closed) NoLink (Contains []) NoNode (λ row known none. absurd none)
        (λ n none. absurd none) search.from search.to route cost walk;
    risks = λ r mine theirs.
        (let h = step-hop rows (IsClosed rows closed) (Contains []) search.to route search.from cost walk mine.1
        mine.3 in
        let may = open-partner h.0 h.3.known h.3.link_allowed in
        may.risks (mine.0, r, mine.2, mine.4 ∙ h.3.link, mine.5, theirs));
    nodes = λ n mine theirs.
        (let h = step-hop rows (IsClosed rows closed) (Contains []) search.to route search.from cost walk mine.0
        mine.1 in
        let may = open-partner h.0 h.3.known h.3.link_allowed in
        let at : h.1 ≡ n = sym h.3.sender ∙ mine.2 in
        elim h.3.joins [
          | inl up ↦ may.low (subst (IsInner search.from search.to done) (sym at ∙ sym up.0) theirs)
          | inr down ↦ may.high (subst (IsInner search.from search.to done) (sym at ∙ sym down.0) theirs)
        ]);
  }

  module _ (backup : List Step) (cost : ℕ) (is : IsBackup rows done search.from search.to backup cost) where
    open-walk : (steps : List Step) (a : NodeId) (left : ℕ) → ((x : Step) → Contains steps x → Contains backup x) →
        IsWalk rows NoLink NoNode a search.to steps left →
        IsWalk rows (IsClosed rows closed) (Contains []) a search.to steps left
    open-walk [] a left within walk = walk
    open-walk (s ∷ steps) a left within walk =
        let inside : (x : Step) → Contains steps x → Contains backup x =
        λ x there. within x (contains-tail s x steps there) in
        let may = partner-may rows search.from search.to done backup cost is s walk.0 a walk.1
        (within s (contains-head s steps)) walk.3
        (comes-to rows search.to backup walk.1 steps walk.2 inside walk.4) in (
          walk.0,
          walk.1,
          walk.2,
          record {
            known = walk.3.known;
            sender = walk.3.sender;
            link = walk.3.link;
            joins = walk.3.joins;
            link_allowed = partner-open walk.0 walk.3.known may;
            node_allowed = λ none. contains-none walk.1 none;
          },
          open-walk steps walk.1 walk.2 inside walk.4,
          walk.5,
        )

    backup-open : IsWalk rows (IsClosed rows closed) (Contains []) search.from search.to backup cost
    backup-open = open-walk backup search.from cost (λ x there. there) is.walk

  -- What a search finds

  -- the least walk that the search finds over open rows is the least partner
  pub partner-found : (found : Found) → IsLeastFound rows closed [] search.from search.to found →
      IsPartner search done (Some found)
  partner-found found is = record {
    allowed = open-backup found.route found.cost is.route.allowed;
    least = λ other c backup. is.route.least other c (backup-open other c backup);
    first = λ other backup. is.route.first other (backup-open other found.cost backup);
  }

  -- where it finds none, there is no partner
  pub partner-none : (ps : List (NodeId × ℕ)) →
      JoinsNone rows (IsClosed rows closed) (Contains []) search.from search.to ps → (route : List Step) (cost : ℕ) →
      ¬ IsBackup rows done search.from search.to route cost
  partner-none ps none route cost backup = none.none route cost (backup-open route cost backup)

  -- the least costs over open rows are bounds for partners
  pub partner-bounds : (ps : List (NodeId × ℕ)) → AreEndBounds rows closed search.from search.to ps →
      AreBounds rows (MayPartner rows done search.from search.to) search.to ps
  partner-bounds ps are = end-bounds rows closed search.from search.to
      (MayPartner rows done search.from search.to) partner-open ps are

  -- a partner costs what the bound of the start says
  pub partner-costs : (ps : List (NodeId × ℕ)) → AreEndBounds rows closed search.from search.to ps → (b : ℕ) →
      bound_at ps search.from ≡ Some b → (backup : List Step) × IsBackup rows done search.from search.to backup b
  partner-costs ps are b is =
      let there = are.potential.attained search.from b (bound-there ps search.from b is) in
      let back = walk-back rows (IsClosed rows closed) search.from there.0 search.to b there.1 in
      (back.0, open-backup back.0 b back.1)
