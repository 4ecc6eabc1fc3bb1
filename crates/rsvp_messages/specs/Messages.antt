-- What the objects of each message spell (RFC 2205, section 3.1; RFC 3209; RFC 3473; RFC 4872).
use Rattle.std.specs.{Prelude.{◌≡◌, ◌⊎◌, ℕ, ◌/◌, ◌%◌, ◌==◌, ◌&&◌, ◌||◌, Bool, false, not, List, [], ◌∷◌, Option, Some, filter}, List.list_any}
use Rattle.ason_base.specs.{declared.limits.TheConstants.MOST_LABELS, declared.ids.LinkId.LinkId, declared.ids.Lsp.Lsp, declared.ids.NodeId.NodeId, declared.messages.Msg.Msg, declared.messages.Msg.TheVariants.{Path, Resv, PathTear, PathErr, Notify}, declared.messages.PathRole.PathRole, declared.messages.PathRole.TheVariants.{Work, Back}, declared.steps.Step.Step, Labels.{has, up_to}}
use Rattle.wire_buf.specs.Routes.{IsRoute}
use Rattle.rsvp_objects.specs.{declared.error.ErrorSpec.ErrorSpec, declared.label_set.LabelSetObject.LabelSetObject, declared.sender.SenderRef.SenderRef, declared.session.Session.Session, Bodies.{IsError, IsErrorIpv4, IsHop, IsLabel, IsRequest, IsSenderRef, IsSession}, LabelSets.IsLabelSet, declared.protection.Protection.Protection, RecoveryBodies.{IsAssociation, IsProtection}}
use Rattle.rsvp_objects.specs.declared.protection.Protection.TheVariants as bits
use Rattle.rsvp_messages.specs.{Objects.Object, Parts.{HasAtMostOne, HasEach, HasNone, HasOne}}

-- The LSP: its tunnel and egress are those of SESSION (class 1), its ingress and number those of the SENDER_TEMPLATE
-- (class 11) or the FILTER_SPEC (class 10).
pub record NamesLsp (class : ℕ) (os : List Object) (lsp : Lsp) (egress : NodeId) : Type 0 where
  pub session : Session
  pub sender : SenderRef
  pub has_session : HasOne 1 7 (λ body. IsSession body session) os
  pub has_sender : HasOne class 7 (λ body. IsSenderRef body sender) os
  pub lsp_is : lsp ≡ record { ingress = sender.sender; tunnel = session.tunnel; lsp = sender.lsp }
  pub egress_is : egress ≡ session.endpoint

-- RSVP_HOP: the link that the message came over
abbrev pub ComesOver : List Object → LinkId → Type 0
ComesOver os link = HasOne 3 3 (λ body. (sender : NodeId) × IsHop body (record { sender = sender; link = link })) os

-- EXPLICIT_ROUTE: without one the route is empty
abbrev pub HasRoute : List Object → List Step → Type 0
HasRoute os [] = HasNone 20 os
HasRoute os (step ∷ steps) = HasOne 20 1 (λ body. IsRoute body (step ∷ steps)) os

abbrev pub includes : ℕ → LabelSetObject → Bool
includes l x = x.include && has x.labels l

abbrev pub excludes : ℕ → LabelSetObject → Bool
excludes l x = not x.include && has x.labels l

-- no object includes, or one includes the label, and none excludes it
abbrev pub allows : List LabelSetObject → ℕ → Bool
allows xs l = (not (list_any (λ x. x.include) xs) || list_any (includes l) xs) && not (list_any (excludes l) xs)

-- LABEL_SETs: the labels that all of them allow
abbrev pub HasSet : List Object → List ℕ → Type 0
HasSet os set = (xs : List LabelSetObject) × HasEach 36 1 IsLabelSet os xs ×
    (set ≡ filter (allows xs) (up_to MOST_LABELS))

-- PROTECTION: without one the LSP is a working one without a backup
abbrev pub HasProtection : List Object → Protection → Type 0
HasProtection os p = (HasNone 37 os × (p ≡ bits.Work false)) ⊎ HasOne 37 2 (λ body. IsProtection body p) os

-- an ASSOCIATION of recovery, type 1, with the LSP of this number
abbrev pub Ties : ℕ → List ℕ → Type 0
Ties work body = (source : ℕ) × IsAssociation body (record { kind = 1; id = work; source = source })

-- a backup also has the LSP that it is for, by ASSOCIATION, and that LSP's route, by PRIMARY_PATH_ROUTE
abbrev pub HasRole : List Object → PathRole → Type 0
HasRole os (Work guard) = HasProtection os (bits.Work guard)
HasRole os (Back active work primary) =
    HasProtection os (bits.Back active) × HasOne 199 1 (Ties work) os × HasOne 38 1 (λ body. IsRoute body primary) os

-- the parts of a Path that aren't lists: LABEL_REQUEST, and UPSTREAM_LABEL where there is one
pub record SpellsHead (os : List Object) (lsp : Lsp) (egress : NodeId) (link : LinkId) (upstream : Option ℕ)
    : Type 0 where
  pub names : NamesLsp 11 os lsp egress
  pub comes : ComesOver os link
  pub request : HasOne 19 4 IsRequest os
  pub has_upstream : HasAtMostOne 35 2 IsLabel os upstream

pub record SpellsPath (os : List Object) (lsp : Lsp) (egress : NodeId) (link : LinkId) (route : List Step)
    (set : List ℕ) (upstream : Option ℕ) (role : PathRole) : Type 0 where
  pub head : SpellsHead os lsp egress link upstream
  pub has_route : HasRoute os route
  pub has_set : HasSet os set
  pub has_role : HasRole os role

-- ERROR_SPEC with an interface or without
abbrev pub HasError : List Object → ErrorSpec → Type 0
HasError os e = HasOne 6 3 (λ body. IsError body e) os ⊎ HasOne 6 1 (λ body. IsErrorIpv4 body e) os

-- flag 0x04 is Path_State_Removed (RFC 3473, section 4.4)
abbrev pub is_removed : ErrorSpec → Bool
is_removed e = e.flags / 4 % 2 == 1

-- the objects that each message reads
abbrev pub SpellsMsg : List Object → Msg → Type 0
SpellsMsg os (Path lsp egress link route set upstream role) = SpellsPath os lsp egress link route set upstream role
SpellsMsg os (Resv lsp egress link label) =
    NamesLsp 10 os lsp egress × ComesOver os link × HasOne 16 2 (λ body. IsLabel body label) os
SpellsMsg os (PathTear lsp egress link) = NamesLsp 11 os lsp egress × ComesOver os link
SpellsMsg os (PathErr lsp egress at removed code) =
    NamesLsp 11 os lsp egress
    × ((e : ErrorSpec) × HasError os e × (at ≡ e.node) × (removed ≡ is_removed e) × (code ≡ e.code))
SpellsMsg os (Notify lsp egress at link code) =
    NamesLsp 11 os lsp egress
    × ((e : ErrorSpec) × HasOne 6 3 (λ body. IsError body e) os × (e.link ≡ Some link) × (at ≡ e.node)
    × (code ≡ e.code))
