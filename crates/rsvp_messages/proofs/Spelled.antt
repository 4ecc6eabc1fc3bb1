-- The written form of each message spells it.
use Rattle.std.proofs.{Common.{◌≡◌, ◌≤◌, ◌<◌, ℕ, ◌^◌, ◌==◌, Bool, true, false, Option, None, Some, List, [], ◌∷◌, ◌++◌, length, All, inl, inr, refl, ap, sym, subst, ◌∙◌, arith, IfSome}, lemmas.List.append-nil, lemmas.List.Elements.filter-append}
use Rattle.ason_base.specs.{declared.limits.TheConstants.{MOST_LABELS, MOST_STEPS}, declared.ids.LinkId.LinkId, declared.ids.Lsp.Lsp, declared.ids.NodeId.NodeId, declared.messages.Msg.Msg, declared.messages.Msg.TheVariants.{Path, Resv, PathTear, PathErr, Notify}, declared.messages.MsgId.MsgId, declared.messages.PathRole.PathRole, declared.messages.PathRole.TheVariants.{Work, Back}, declared.steps.Step.Step, Writable.{IsWritableMsg, IsWritableRole}}
use Rattle.rsvp_messages.proofs.Sets.{one_allows}
use Rattle.wire_buf.specs.Routes.{HasIds, IsRoute, route_bytes}
use Rattle.rsvp_objects.specs.{declared.error.ErrorSpec.ErrorSpec, declared.hop.HopObject.HopObject, declared.label_set.LabelSetObject.LabelSetObject, declared.sender.SenderRef.SenderRef, declared.session.Session.Session, Bodies.{HasWidths, IsError, IsHop, IsLabel, IsMsgId, IsRequest, IsSenderRef, IsSession, error_bytes, hop_bytes, label_bytes, msg_id_bytes, request_bytes, sender_bytes, session_bytes}, LabelSets.{IsLabelSet, among, label_set_bytes}, declared.association.Association.Association, declared.protection.Protection.Protection, RecoveryBodies.{IsAssociation, IsProtection, association_bytes, protection_bytes}}
use Rattle.rsvp_messages.specs.{Messages.{HasRole, HasRoute, HasSet, NamesLsp, SpellsMsg, is_removed}, Objects.{Object, of_class}, Parts.{AreEach, HasAtMostOne, HasOne}, Writable.{FitsLsp, FitsMsg, FitsRole, IsLabelNumber}, Written.{flags_of, hop_object, made, msg_objects, path_end, protection_of, request_objects, role_objects, route_objects, sender_object, sender_tspec, session_object, upstream_objects}}

-- what the crates of objects say of each body that they write
pub record ComeBack : Type 0 where
  pub session : (s : Session) → s.endpoint.0 < 2 ^ 32 → s.tunnel < 2 ^ 16 → s.extended < 2 ^ 32 →
      IsSession (session_bytes s) s
  pub sender : (s : SenderRef) → s.sender.0 < 2 ^ 32 → s.lsp < 2 ^ 16 → IsSenderRef (sender_bytes s) s
  pub hop : (h : HopObject) → h.sender.0 < 2 ^ 32 → h.link.0 < 2 ^ 32 → IsHop (hop_bytes h) h
  pub error : (e : ErrorSpec) → HasWidths e → IsError (error_bytes e) e
  pub label : (l : ℕ) → 1 ≤ l → l ≤ MOST_LABELS → IsLabel (label_bytes l) l
  pub request : IsRequest request_bytes
  pub route : (steps : List Step) → 1 ≤ length steps → length steps ≤ MOST_STEPS → All HasIds steps →
      IsRoute (route_bytes steps) steps
  pub id : (flags : ℕ) (m : MsgId) → m.epoch < 2 ^ 24 → m.number < 2 ^ 32 → IsMsgId (msg_id_bytes flags m) m
  pub set : (o : LabelSetObject) → o.labels ≡ among o.labels → IsLabelSet (label_set_bytes o) o
  pub protection : (p : Protection) → IsProtection (protection_bytes p) p
  pub association : (a : Association) → a.kind < 2 ^ 16 → a.id < 2 ^ 16 → a.source < 2 ^ 32 →
      IsAssociation (association_bytes a) a

pub apart : (class : ℕ) (xs ys : List Object) → of_class class (xs ++ ys) ≡ of_class class xs ++ of_class class ys
apart class xs ys = filter-append (λ o. o.class == class) xs ys

pub skip_route : (class : ℕ) (route : List Step) (os : List Object) → (20 == class) ≡ false →
    of_class class (route_objects route ++ os) ≡ of_class class os
skip_route class [] os other = refl
skip_route class (s ∷ ss) os other = rw other refl

pub skip_role : (class : ℕ) (lsp : Lsp) (role : PathRole) (os : List Object) → (199 == class) ≡ false →
    (38 == class) ≡ false → of_class class (role_objects lsp role ++ os) ≡ of_class class os
skip_role class lsp (Work guard) os a b = refl
skip_role class lsp (Back active work primary) os a b = rw (a, b) refl

skip_upstream : (class : ℕ) (upstream : Option ℕ) → (35 == class) ≡ false →
    of_class class (upstream_objects upstream) ≡ []
skip_upstream class None other = refl
skip_upstream class (Some label) other = rw other refl

pub skip_end : (class : ℕ) (lsp : Lsp) (upstream : Option ℕ) → (35 == class) ≡ false →
    of_class class (path_end lsp upstream) ≡ of_class class (sender_object 11 lsp ∷ sender_tspec ∷ [])
skip_end class lsp upstream other =
    apart class (sender_object 11 lsp ∷ sender_tspec ∷ []) (upstream_objects upstream)
    ∙ ap (λ (l : List Object). of_class class (sender_object 11 lsp ∷ sender_tspec ∷ []) ++ l)
    (skip_upstream class upstream other)
    ∙ append-nil (of_class class (sender_object 11 lsp ∷ sender_tspec ∷ []))

-- the parts of a Path whose classes stand there once
pub plain : (class : ℕ) (lsp : Lsp) (route : List Step) (set : List ℕ) (upstream : Option ℕ) (role : PathRole) →
    (20 == class) ≡ false → (199 == class) ≡ false → (38 == class) ≡ false → (35 == class) ≡ false →
    of_class class (route_objects route ++ (request_objects set role ++
    (role_objects lsp role ++ path_end lsp upstream))) ≡ of_class class
    (request_objects set role ++ (sender_object 11 lsp ∷ sender_tspec ∷ []))
plain class lsp route set upstream role a b d e =
    skip_route class route (request_objects set role ++ (role_objects lsp role ++ path_end lsp upstream)) a
    ∙ apart class (request_objects set role) (role_objects lsp role ++ path_end lsp upstream)
    ∙ ap (λ (l : List Object). of_class class (request_objects set role) ++ l)
    (skip_role class lsp role (path_end lsp upstream) b d ∙ skip_end class lsp upstream e)
    ∙ sym (apart class (request_objects set role) (sender_object 11 lsp ∷ sender_tspec ∷ []))

names_again : (back : ComeBack) (class : ℕ) (os : List Object) (lsp : Lsp) (egress : NodeId) → FitsLsp lsp →
    egress.0 < 2 ^ 32 → of_class 1 os ≡ session_object lsp egress ∷ [] →
    of_class class os ≡ sender_object class lsp ∷ [] → NamesLsp class os lsp egress
names_again back class os lsp egress fits small one two = record {
  session = record { endpoint = egress; tunnel = lsp.tunnel; extended = lsp.ingress.0 };
  sender = record { sender = lsp.ingress; lsp = lsp.lsp };
  has_session =
      record {
        body = session_bytes
            (record { endpoint = egress; tunnel = lsp.tunnel; extended = lsp.ingress.0 });
        one = one;
        means = back.session
            (record { endpoint = egress; tunnel = lsp.tunnel; extended = lsp.ingress.0 }) small fits.1 fits.0;
      };
  has_sender =
      record {
        body = sender_bytes (record { sender = lsp.ingress; lsp = lsp.lsp });
        one = two;
        means = back.sender
            (record { sender = lsp.ingress; lsp = lsp.lsp }) fits.0 fits.2;
      };
  lsp_is = refl;
  egress_is = refl;
}

hop_again : (back : ComeBack) (os : List Object) (sender : NodeId) (link : LinkId) → sender.0 < 2 ^ 32 →
    link.0 < 2 ^ 32 → of_class 3 os ≡ hop_object sender link ∷ [] →
    HasOne 3 3 (λ body. (s : NodeId) × IsHop body (record { sender = s; link = link })) os
hop_again back os sender link a b one =
    record {
      body = hop_bytes (record { sender = sender; link = link });
      one = one;
      means =
          (sender, back.hop (record { sender = sender; link = link }) a b);
    }

route_again : (back : ComeBack) (sender : NodeId) (l : Lsp) (e : NodeId) (k : LinkId) (route : List Step) (set : List ℕ)
    (u : Option ℕ) (role : PathRole) → length route ≤ MOST_STEPS → All HasIds route →
    HasRoute (msg_objects sender (Path l e k route set u role)) route
route_again back sender l e k [] set u role few ids =
    skip_role 20 l role (path_end l u) refl refl ∙ skip_end 20 l u refl
route_again back sender l e k (s ∷ ss) set u role few ids = record {
  body = route_bytes (s ∷ ss);
  one =
      ap (λ (os : List Object). made 20 1 (route_bytes (s ∷ ss)) ∷ os)
      (skip_role 20 l role (path_end l u) refl refl ∙ skip_end 20 l u refl);
  means = back.route (s ∷ ss) (omega arith) few ids;
}

upstream_again : (back : ComeBack) (sender : NodeId) (l : Lsp) (e : NodeId) (k : LinkId) (route : List Step)
    (set : List ℕ) (u : Option ℕ) (role : PathRole) → IfSome u IsLabelNumber →
    HasAtMostOne 35 2 IsLabel (msg_objects sender (Path l e k route set u role)) u
upstream_again back sender l e k route set None role fits =
    skip_route 35 route (request_objects set role ++ (role_objects l role ++ path_end l None)) refl
    ∙ skip_role 35 l role (path_end l None) refl refl
upstream_again back sender l e k route set (Some x) role fits = record {
  body = label_bytes x;
  one =
      skip_route 35 route (request_objects set role ++ (role_objects l role ++ path_end l (Some x))) refl
      ∙ skip_role 35 l role (path_end l (Some x)) refl refl;
  means = back.label x fits.0 fits.1;
}

protection_again : (back : ComeBack) (sender : NodeId) (l : Lsp) (e : NodeId) (k : LinkId) (route : List Step)
    (set : List ℕ) (u : Option ℕ) (role : PathRole) →
    HasOne 37 2 (λ body. IsProtection body (protection_of role)) (msg_objects sender (Path l e k route set u role))
protection_again back sender l e k route set u role =
    record {
      body = protection_bytes (protection_of role);
      one = plain 37 l route set u role refl refl refl
          refl;
      means = back.protection (protection_of role);
    }

role_again : (back : ComeBack) (sender : NodeId) (l : Lsp) (e : NodeId) (k : LinkId) (route : List Step) (set : List ℕ)
    (u : Option ℕ) (role : PathRole) → FitsLsp l → IsWritableRole role → FitsRole role →
    HasRole (msg_objects sender (Path l e k route set u role)) role
role_again back sender l e k route set u (Work guard) fits w f =
    inr (protection_again back sender l e k route set u (Work guard))
role_again back sender l e k route set u (Back active work primary) fits w f =
    let role : PathRole = Back active work primary in
    let tie : Association = record { kind = 1; id = work; source = l.ingress.0 } in (
      inr (protection_again back sender l e k route set u role),
      record {
        body = association_bytes tie;
        one =
            skip_route 199 route (request_objects set role ++ (role_objects l role ++ path_end l u)) refl
            ∙ ap (λ (os : List Object). made 199 1 (association_bytes tie) ∷ os) (skip_end 199 l u refl);
        means = (l.ingress.0, back.association tie (omega arith) f.0 fits.0);
      },
      record {
        body = route_bytes primary;
        one =
            skip_route 38 route (request_objects set role ++ (role_objects l role ++ path_end l u)) refl
            ∙ ap (λ (os : List Object). made 38 1 (route_bytes primary) ∷ os) (skip_end 38 l u refl);
        means = back.route primary w.0 w.1 f.1;
      },
    )

set_again : (back : ComeBack) (sender : NodeId) (l : Lsp) (e : NodeId) (k : LinkId) (route : List Step) (set : List ℕ)
    (u : Option ℕ) (role : PathRole) → set ≡ among set → HasSet (msg_objects sender (Path l e k route set u role)) set
set_again back sender l e k route set u role rises =
    let x : LabelSetObject = record { include = true; labels = set } in (
      x ∷ [],
      subst (λ (os : List Object). AreEach 1 IsLabelSet os (x ∷ []))
          (sym (plain 36 l route set u role refl refl refl refl)) (refl, back.set x rises, tt),
      one_allows x refl rises,
    )

flags_again : (removed : Bool) (e : ErrorSpec) → e.flags ≡ flags_of removed → removed ≡ is_removed e
flags_again true e is = rw is refl
flags_again false e is = rw is refl

flags-small : (removed : Bool) → flags_of removed < 2 ^ 8
flags-small true = omega arith
flags-small false = omega arith

pub msg_again : (back : ComeBack) (sender : NodeId) (m : Msg) → sender.0 < 2 ^ 32 → IsWritableMsg m → FitsMsg m →
    SpellsMsg (msg_objects sender m) m
msg_again back sender (Path l e k route set u role) s w f = record {
  head = record {
    names =
        names_again back 11 _ l e f.0 f.1 (ap (λ (os : List Object). session_object l e ∷ os)
        (plain 1 l route set u role refl refl refl refl)) (plain 11 l route set u role refl refl refl refl);
    comes =
        hop_again back _ sender k s f.2 (ap (λ (os : List Object). hop_object sender k ∷ os)
        (plain 3 l route set u role refl refl refl refl));
    request =
        record { body = request_bytes; one = plain 19 l route set u role refl refl refl refl; means = back.request };
    has_upstream = upstream_again back sender l e k route set u role f.5;
  };
  has_route = route_again back sender l e k route set u role w.1 f.3;
  has_set = set_again back sender l e k route set u role f.4;
  has_role = role_again back sender l e k route set u role f.0 w.2 f.6;
}
msg_again back sender (Resv l e k x) s w f = (
  names_again back 10 _ l e f.0 f.1 refl refl,
  hop_again back _ sender k s f.2 refl,
  record { body = label_bytes x; one = refl; means = back.label x f.3.0 f.3.1 },
)
msg_again back sender (PathTear l e k) s w f =
    (names_again back 11 _ l e f.0 f.1 refl refl, hop_again back _ sender k s f.2 refl)
msg_again back sender (PathErr l e n b x) s w f =
    let error : ErrorSpec = record { node = n; flags = flags_of b; code = x; link = None } in (
      names_again back 11 _ l e f.0 f.1 refl refl,
      (
        error,
        inl (record {
          body =
              error_bytes error;
          one = refl;
          means = back.error error (f.2, flags-small b, f.3.0, f.3.1, tt);
        }),
        refl,
        flags_again b error refl,
        refl,
      ),
    )
msg_again back sender (Notify l e n k x) s w f =
    let error : ErrorSpec = record { node = n; flags = 0; code = x; link = Some k } in (
      names_again back 11 _ l e f.0 f.1 refl refl,
      (
        error,
        record {
          body =
              error_bytes error;
          one = refl;
          means = back.error error (f.2, omega arith, f.4.0, f.4.1, f.3);
        },
        refl,
        refl,
        refl,
      ),
    )
