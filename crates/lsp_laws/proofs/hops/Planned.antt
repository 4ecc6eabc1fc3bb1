-- Where an LSP with its route stands in a state.
use Rattle.std.proofs.Common.{◌≡◌, ◌<◌, ◌≤◌, ℕ, true, false, cond, nat_eq, List, [], refl, sym, ◌∙◌, subst, arith}
use Rattle.std.specs.Prelude.{Option, Some, None}
use Rattle.ason_base.specs.{Network.Network, declared.ids.Lsp.Lsp, declared.ids.NodeId.NodeId, declared.steps.Step.Step, Routes.{is_beside, makes_route}}
use Rattle.mesh_rules.specs.{Changes.{Answer, changed}, Machine.{Mesh, commit}, Events.or_route, Pairs.beside_lsp}
use Rattle.lsp_laws.specs.HopLaw.{leg_at, mail_between, notices_between}
use Rattle.lsp_laws.proofs.{hops.Plans.{Plan, plan, IsPlanRoute}, hops.Purposes.{Purpose, Carries, Guards}, hops.Chain.Chain, hops.Notices.{NoticesFit, notices_same}}

-- the whole route of the first Path that its ingress sent for each LSP
abbrev pub Routes : Type 0
Routes = Lsp → Option (List Step)

-- the working LSP that a backup guards has this route
abbrev pub IsGuarded : Routes → Lsp → Purpose → Type 0
IsGuarded o l Carries = Unit {0}
IsGuarded o l (Guards work route) = o (beside_lsp l work) ≡ Some route

-- a backup's route has no risk in common with that of the working LSP that it guards, and shares no inner node with it
abbrev pub StandsBeside : Network → Lsp → Purpose → Plan → Type 0
StandsBeside t l Carries p = Unit {0}
StandsBeside t l (Guards work route) p = is_beside t l.ingress p.egress (Some route) p.route ≡ true

-- an LSP that was begun for this purpose, over its route
pub record Planned (t : Network) (s : Mesh) (o : Routes) (l : Lsp) (q : Purpose) (p : Plan) : Type 0 where
  pub route : IsPlanRoute t l.ingress p
  pub made : makes_route t l.ingress p.egress p.route ≡ true
  pub chain : Chain t q l p (leg_at s l) (mail_between s l)
  pub notices : NoticesFit p (notices_between s l)
  pub number : l.lsp < (s.nodes l.ingress.0).lsp
  pub guards : IsGuarded o l q
  pub beside : StandsBeside t l q p

-- no leg and no message of the LSP is anywhere
pub record IsLspUntouched (s : Mesh) (l : Lsp) : Type 0 where
  pub legs : (n : NodeId) → leg_at s l n ≡ None
  pub mail : (a b : NodeId) → mail_between s l a b ≡ []
  pub notices : (a b : NodeId) → notices_between s l a b ≡ []

abbrev pub Follows : Network → Mesh → Routes → Lsp → Option (List Step) → Type 0
Follows t s o l None = IsLspUntouched s l
Follows t s o l (Some route) = (e : NodeId) × (q : Purpose) × Planned t s o l q (plan route e)

-- each LSP with its route
abbrev pub EachFollows : Network → Mesh → Routes → Type 0
EachFollows t s o = (l : Lsp) → Follows t s o l (o l)

-- the same legs and messages of the LSP, Notifies aside, and no smaller next number
pub record StillOf (s s' : Mesh) (l : Lsp) : Type 0 where
  pub legs : (n : NodeId) → leg_at s' l n ≡ leg_at s l n
  pub mail : (a b : NodeId) → mail_between s' l a b ≡ mail_between s l a b
  pub next : (s.nodes l.ingress.0).lsp ≤ (s'.nodes l.ingress.0).lsp

-- and the same Notifies
pub record SameOf (s s' : Mesh) (l : Lsp) : Type 0 where
  pub still : StillOf s s' l
  pub notices : (a b : NodeId) → notices_between s' l a b ≡ notices_between s l a b

chain_same : (t : Network) (q : Purpose) (s s' : Mesh) (l : Lsp) (p : Plan) → StillOf s s' l →
    Chain t q l p (leg_at s l) (mail_between s l) → Chain t q l p (leg_at s' l) (mail_between s' l)
chain_same t q s s' l p same chain =
    let legs : leg_at s l ≡ leg_at s' l = λ i n. sym (same.legs n) i in
    let mail : mail_between s l ≡ mail_between s' l = λ i x y. sym (same.mail x y) i in
    subst (Chain t q l p (leg_at s' l)) mail (subst (λ f. Chain t q l p f (mail_between s l)) legs chain)

-- an LSP whose legs and messages stay, while these Notifies are under way
planned_noticed : (t : Network) (s s' : Mesh) (o : Routes) (l : Lsp) (q : Purpose) (p : Plan) → StillOf s s' l →
    NoticesFit p (notices_between s' l) → Planned t s o l q p → Planned t s' o l q p
planned_noticed t s s' o l q p same fit b = record {
  route = b.route;
  made = b.made;
  chain = chain_same t q s s' l p same b.chain;
  notices = fit;
  number = (let n = b.number in let m = same.next in omega arith);
  guards = b.guards;
  beside = b.beside;
}

-- what holds of the Notifies of an LSP that has this route, if any, is so still
abbrev pub NoticesStay : Network → Mesh → Mesh → Routes → Lsp → Option (List Step) → Type 0
NoticesStay t s s' o l None = (a b : NodeId) → notices_between s' l a b ≡ []
NoticesStay t s s' o l (Some route) = (e : NodeId) (q : Purpose) → Planned t s o l q (plan route e) →
    NoticesFit (plan route e) (notices_between s' l)

pub follows_noticed : (t : Network) (s s' : Mesh) (o : Routes) (l : Lsp) (c : Option (List Step)) → StillOf s s' l →
    NoticesStay t s s' o l c → Follows t s o l c → Follows t s' o l c
follows_noticed t s s' o l None same stay b =
    record { legs = λ n. same.legs n ∙ b.legs n; mail = λ x y. same.mail x y ∙ b.mail x y; notices = stay }
follows_noticed t s s' o l (Some route) same stay (e, q, b) =
    (e, q, planned_noticed t s s' o l q (plan route e) same (stay e q b) b)

pub follows_same : (t : Network) (s s' : Mesh) (o : Routes) (l : Lsp) (c : Option (List Step)) → SameOf s s' l →
    Follows t s o l c → Follows t s' o l c
follows_same t s s' o l None same b =
    follows_noticed t s s' o l None same.still (λ x y. same.notices x y ∙ b.notices x y) b
follows_same t s s' o l (Some route) same b =
    follows_noticed t s s' o l (Some route) same.still
    (λ e q pl. notices_same (plan route e) (notices_between s l) (notices_between s' l) same.notices pl.notices) b

-- What was sent first stays

abbrev pub Grow : Routes → Routes → Type 0
Grow o o' = (l : Lsp) (route : List Step) → o l ≡ Some route → o' l ≡ Some route

pub guarded_grown : (o o' : Routes) (l : Lsp) (q : Purpose) → Grow o o' → IsGuarded o l q → IsGuarded o' l q
guarded_grown o o' l Carries grow h = tt
guarded_grown o o' l (Guards work route) grow h = grow (beside_lsp l work) route h

pub follows_grown : (t : Network) (s : Mesh) (o o' : Routes) (l : Lsp) (c : Option (List Step)) → Grow o o' →
    Follows t s o l c → Follows t s o' l c
follows_grown t s o o' l None grow b = b
follows_grown t s o o' l (Some route) grow (e, q, b) = (
  e,
  q,
  record {
    route = b.route;
    made = b.made;
    chain = b.chain;
    notices = b.notices;
    number = b.number;
    guards = guarded_grown o o' l q grow b.guards;
    beside = b.beside;
  },
)

pub or_none : (o : Option (List Step)) → or_route o None ≡ o
or_none None = refl
or_none (Some p) = refl

pub or_assoc : (a b c : Option (List Step)) → or_route (or_route a b) c ≡ or_route a (or_route b c)
or_assoc None b c = refl
or_assoc (Some r) b c = refl

pub next_same : (s : Mesh) (n m : ℕ) (a : Answer) → a.numbers ≡ None → ((commit s n a).nodes m).lsp ≡ (s.nodes m).lsp
next_same s n m a none =
    elim (nat_eq m n) as (λ b. (cond b (changed (s.nodes m) a) (s.nodes m)).lsp ≡ (s.nodes m).lsp) [
      | true ↦ rw none refl
      | false ↦ refl
    ]
