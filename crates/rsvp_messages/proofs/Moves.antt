-- What objects spell depends on the objects of each class alone.
use Rattle.std.proofs.Common.{◌≡◌, ◌≢◌, ℕ, Option, None, Some, List, [], ◌∷◌, inl, inr, sym, subst, ◌∙◌, arith}
use Rattle.ason_base.specs.{declared.ids.Lsp.Lsp, declared.ids.NodeId.NodeId, declared.messages.Msg.Msg, declared.messages.Msg.TheVariants.{Path, Resv, PathTear, PathErr, Notify}, declared.messages.MsgId.MsgId, declared.messages.Packet.Packet, declared.messages.PathRole.PathRole, declared.messages.PathRole.TheVariants.{Work, Back}, declared.steps.Step.Step}
use Rattle.rsvp_objects.specs.{declared.error.ErrorSpec.ErrorSpec, Bodies.IsMsgId, LabelSets.IsLabelSet, declared.protection.Protection.Protection}
use Rattle.rsvp_messages.specs.{Messages.{HasError, HasProtection, HasRole, HasRoute, NamesLsp, SpellsMsg}, Objects.{Object, of_class}, Packets.{SpellsBody, SpellsPacket}, Parts.{AreEach, HasAtMostOne, HasEach, HasOne}}

-- the same objects of each class that isn't of numbers
abbrev pub SameOthers : List Object → List Object → Type 0
SameOthers os new = (class : ℕ) → class ≢ 23 → class ≢ 24 → of_class class os ≡ of_class class new

pub move_one : (class ctype : ℕ) (Means : List ℕ → Type 0) (os new : List Object) →
    of_class class os ≡ of_class class new → HasOne class ctype Means os → HasOne class ctype Means new
move_one class ctype Means os new e has = record { body = has.body; one = sym e ∙ has.one; means = has.means }

pub move_at_most : {X : Type 0} (class ctype : ℕ) (Means : List ℕ → X → Type 0) (os new : List Object) (x : Option X) →
    of_class class os ≡ of_class class new → HasAtMostOne class ctype Means os x → HasAtMostOne class ctype Means new x
move_at_most class ctype Means os new None e has = sym e ∙ has
move_at_most class ctype Means os new (Some x) e has = move_one class ctype (λ b. Means b x) os new e has

pub move_each : {X : Type 0} (class ctype : ℕ) (Means : List ℕ → X → Type 0) (os new : List Object) (xs : List X) →
    of_class class os ≡ of_class class new → HasEach class ctype Means os xs → HasEach class ctype Means new xs
move_each class ctype Means os new xs e has = subst (λ (l : List Object). AreEach ctype Means l xs) e has

move_names : (class : ℕ) (os new : List Object) (l : Lsp) (n : NodeId) → class ≢ 23 → class ≢ 24 → SameOthers os new →
    NamesLsp class os l n → NamesLsp class new l n
move_names class os new l n a b same h = record {
  session = h.session;
  sender = h.sender;
  has_session = move_one 1 7 _ os new (same 1 (omega arith) (omega arith)) h.has_session;
  has_sender = move_one class 7 _ os new (same class a b) h.has_sender;
  lsp_is = h.lsp_is;
  egress_is = h.egress_is;
}

move_route : (os new : List Object) (steps : List Step) → of_class 20 os ≡ of_class 20 new → HasRoute os steps →
    HasRoute new steps
move_route os new [] e has = sym e ∙ has
move_route os new (s ∷ ss) e has = move_one 20 1 _ os new e has

move_protection : (os new : List Object) (p : Protection) → of_class 37 os ≡ of_class 37 new → HasProtection os p →
    HasProtection new p
move_protection os new p e (inl has) = inl (sym e ∙ has.0, has.1)
move_protection os new p e (inr has) = inr (move_one 37 2 _ os new e has)

move_role : (os new : List Object) (role : PathRole) → SameOthers os new → HasRole os role → HasRole new role
move_role os new (Work guard) same has = move_protection os new _ (same 37 (omega arith) (omega arith)) has
move_role os new (Back active work primary) same has = (
  move_protection os new _ (same 37 (omega arith) (omega arith)) has.0,
  move_one 199 1 _ os new
      (same 199 (omega arith) (omega arith)) has.1,
  move_one 38 1 _ os new (same 38 (omega arith) (omega arith))
      has.2,
)

move_error : (os new : List Object) (e : ErrorSpec) → of_class 6 os ≡ of_class 6 new → HasError os e → HasError new e
move_error os new e same (inl has) = inl (move_one 6 3 _ os new same has)
move_error os new e same (inr has) = inr (move_one 6 1 _ os new same has)

pub move_msg : (os new : List Object) (m : Msg) → SameOthers os new → SpellsMsg os m → SpellsMsg new m
move_msg os new (Path l n k r s u role) same h = record {
  head = record {
    names = move_names 11 os new l n (omega arith) (omega arith) same h.head.names;
    comes = move_one 3 3 _ os new (same 3 (omega arith) (omega arith)) h.head.comes;
    request = move_one 19 4 _ os new (same 19 (omega arith) (omega arith)) h.head.request;
    has_upstream = move_at_most 35 2 _ os new u (same 35 (omega arith) (omega arith)) h.head.has_upstream;
  };
  has_route = move_route os new r (same 20 (omega arith) (omega arith)) h.has_route;
  has_set = (
    h.has_set.0,
    move_each 36 1 IsLabelSet os new h.has_set.0 (same 36 (omega arith) (omega arith)) h.has_set.1,
    h.has_set.2,
  );
  has_role = move_role os new role same h.has_role;
}
move_msg os new (Resv l n k x) same h = (
  move_names 10 os new l n (omega arith) (omega arith) same h.0,
  move_one 3 3 _ os new
      (same 3 (omega arith) (omega arith)) h.1,
  move_one 16 2 _ os new (same 16 (omega arith) (omega arith)) h.2,
)
move_msg os new (PathTear l n k) same h = (
  move_names 11 os new l n (omega arith) (omega arith) same h.0,
  move_one 3 3 _ os new
      (same 3 (omega arith) (omega arith)) h.1,
)
move_msg os new (PathErr l n a b x) same h = (
  move_names 11 os new l n (omega arith) (omega arith) same h.0,
  (h.1.0, move_error os new h.1.0 (same 6 (omega arith) (omega arith)) h.1.1, h.1.2, h.1.3, h.1.4),
)
move_msg os new (Notify l n a k x) same h = (
  move_names 11 os new l n (omega arith) (omega arith) same h.0,
  (h.1.0, move_one 6 3 _ os new (same 6 (omega arith) (omega arith)) h.1.1, h.1.2, h.1.3, h.1.4),
)

move_body : (os new : List Object) (id : Option MsgId) (acks : List MsgId) (body : Option Msg) →
    ((class : ℕ) → of_class class os ≡ of_class class new) → SpellsBody os id acks body → SpellsBody new id acks body
move_body os new id acks None same h = h
move_body os new id acks (Some m) same h =
    (move_at_most 23 1 IsMsgId os new id (same 23) h.0, move_msg os new m (λ class a b. same class) h.1)

pub move_packet : (os new : List Object) (p : Packet) → ((class : ℕ) → of_class class os ≡ of_class class new) →
    SpellsPacket os p → SpellsPacket new p
move_packet os new p same h = record {
  acks = (h.acks.0, move_each 24 1 IsMsgId os new p.acks (same 24) h.acks.1);
  body = move_body os new p.id p.acks p.body same h.body;
}
