-- The legs and messages of one LSP after a step at one node.
use Rattle.std.proofs.{Common.{◌≡◌, ◌≢◌, ℕ, Bool, true, false, cond, nat_eq, List, [], ◌∷◌, ◌++◌, drop, refl, ◌∙◌, arith, inl, inr, append-nil}, lemmas.List.Elements.filter-append, Math.Bool.and-false}
use Rattle.std.specs.Prelude.{◌&&◌, ◌⊎◌, filter, map}
use Rattle.ason_base.specs.{declared.ids.Lsp.Lsp, declared.ids.NodeId.NodeId, declared.messages.Msg.Msg, declared.tables.Out.Out}
use Rattle.ason_base.proofs.Numbers.{self-number}
use Rattle.mesh_rules.specs.{Changes.Answer, Machine.{Mesh, commit, without_first, sent_to}}
use Rattle.lsp_laws.specs.HopLaw.{is_message_of, is_notice, is_notice_of, messages_of, notices_of, leg_at, mail_between, notices_between}
use Rattle.lsp_laws.proofs.{hops.Plans.other, hops.Tables.{leg_after, find-changed}}

-- what goes to a node of this LSP
abbrev pub sent_of : Lsp → Answer → NodeId → List Msg
sent_of l a b = messages_of l (sent_to b.0 a.sent)

pub leg-here : (s : Mesh) (n : NodeId) (l : Lsp) (a : Answer) →
    leg_at (commit s n.0 a) l n ≡ leg_after l a.legs (leg_at s l n)
leg-here s n l a = rw (self-number n.0) (find-changed l a.legs (s.nodes n.0).legs)

pub leg-there : (s : Mesh) (n m : NodeId) (l : Lsp) (a : Answer) → m.0 ≢ n.0 →
    leg_at (commit s n.0 a) l m ≡ leg_at s l m
leg-there s n m l a apart = rw (other m.0 n.0 apart) refl

pub mail-from : (s : Mesh) (n b : NodeId) (l : Lsp) (a : Answer) →
    mail_between (commit s n.0 a) l n b ≡ mail_between s l n b ++ sent_of l a b
mail-from s n b l a = rw (self-number n.0) (filter-append _ (s.mail n.0 b.0) (sent_to b.0 a.sent))

pub mail-else : (s : Mesh) (n u d : NodeId) (l : Lsp) (a : Answer) → u.0 ≢ n.0 →
    mail_between (commit s n.0 a) l u d ≡ mail_between s l u d
mail-else s n u d l a apart = rw (other u.0 n.0 apart) refl

pub without-here : (s : Mesh) (u d : NodeId) (l : Lsp) (m : Msg) (rest : List Msg) → s.mail u.0 d.0 ≡ m ∷ rest →
    mail_between (without_first s u.0 d.0) l u d ≡ messages_of l rest
without-here s u d l m rest was = rw (self-number u.0, self-number d.0, was) refl

pub without-else : (s : Mesh) (u d a b : NodeId) (l : Lsp) → (a.0 ≢ u.0) ⊎ (b.0 ≢ d.0) →
    mail_between (without_first s u.0 d.0) l a b ≡ mail_between s l a b
without-else s u d a b l (inl h) = rw (other a.0 u.0 h) refl
without-else s u d a b l (inr h) = rw (other b.0 d.0 h, and-false (nat_eq a.0 u.0)) refl

-- to take a message that isn't one of these leaves them
without-these : (these : Msg → Bool) (s : Mesh) (u d a b : NodeId) (m : Msg) (rest : List Msg) →
    s.mail u.0 d.0 ≡ m ∷ rest → these m ≡ false →
    filter these ((without_first s u.0 d.0).mail a.0 b.0) ≡ filter these (s.mail a.0 b.0)
without-these these s u d a b m rest was apart = go (nat_eq a.0 u.0) (nat_eq b.0 d.0) refl refl
  where
    go : (x y : Bool) → nat_eq a.0 u.0 ≡ x → nat_eq b.0 d.0 ≡ y →
        filter these (cond (x && y) (drop 1 (s.mail a.0 b.0)) (s.mail a.0 b.0)) ≡ filter these (s.mail a.0 b.0)
    go true true e f = let p : a.0 ≡ u.0 = grind arith in let q : b.0 ≡ d.0 = grind arith in rw (p, q, was, apart) refl
    go true false e f = refl
    go false y e f = refl

-- to take a message of another LSP, or a Notify, leaves those of this one
pub without-other : (s : Mesh) (u d a b : NodeId) (m : Msg) (rest : List Msg) (l : Lsp) → s.mail u.0 d.0 ≡ m ∷ rest →
    is_message_of l m ≡ false → mail_between (without_first s u.0 d.0) l a b ≡ mail_between s l a b
without-other s u d a b m rest l was apart = without-these (is_message_of l) s u d a b m rest was apart

-- Notifies

-- none of these messages is a Notify
abbrev pub SendsNoNotice : List Out → Type 0
SendsNoNotice [] = Unit {0}
SendsNoNotice (o ∷ outs) = (is_notice o.msg ≡ false) × SendsNoNotice outs

pub notices-from : (s : Mesh) (n b : NodeId) (l : Lsp) (a : Answer) →
    notices_between (commit s n.0 a) l n b ≡ notices_between s l n b ++ notices_of l (sent_to b.0 a.sent)
notices-from s n b l a = rw (self-number n.0) (filter-append _ (s.mail n.0 b.0) (sent_to b.0 a.sent))

pub notices-else : (s : Mesh) (n u d : NodeId) (l : Lsp) (a : Answer) → u.0 ≢ n.0 →
    notices_between (commit s n.0 a) l u d ≡ notices_between s l u d
notices-else s n u d l a apart = rw (other u.0 n.0 apart) refl

none-sent : (l : Lsp) (d : ℕ) (outs : List Out) → SendsNoNotice outs → notices_of l (sent_to d outs) ≡ []
none-sent l d [] h = refl
none-sent l d (o ∷ outs) h =
    let more = none-sent l d outs h.1 in
    elim (nat_eq o.to.0 d) as
    (λ c. notices_of l (map (λ o. o.msg)
    (cond c (o ∷ filter (λ o. nat_eq o.to.0 d) outs) (filter (λ o. nat_eq o.to.0 d) outs))) ≡ []) [
      | true ↦ rw h.0 more
      | false ↦ more
    ]

-- an answer that sends none of this LSP's there leaves them
pub notices-unsent : (s : Mesh) (n x b : NodeId) (l : Lsp) (a : Answer) → notices_of l (sent_to b.0 a.sent) ≡ [] →
    notices_between (commit s n.0 a) l x b ≡ notices_between s l x b
notices-unsent s n x b l a unsent =
    elim (nat_eq x.0 n.0) as
    (λ t. notices_of l (cond t (s.mail x.0 b.0 ++ sent_to b.0 a.sent) (s.mail x.0 b.0)) ≡ notices_between s l x b) [
      | true ↦
          filter-append _ (s.mail x.0 b.0) (sent_to b.0 a.sent) ∙
          rw (unsent, append-nil) refl
      | false ↦ refl
    ]

-- and so does one that sends none at all
pub notices-plain : (s : Mesh) (n x b : NodeId) (l : Lsp) (a : Answer) → SendsNoNotice a.sent →
    notices_between (commit s n.0 a) l x b ≡ notices_between s l x b
notices-plain s n x b l a plain = notices-unsent s n x b l a (none-sent l b.0 a.sent plain)

-- to take a message that isn't one of this LSP's Notifies leaves them
pub notices-without : (s : Mesh) (u d a b : NodeId) (m : Msg) (rest : List Msg) (l : Lsp) → s.mail u.0 d.0 ≡ m ∷ rest →
    is_notice_of l m ≡ false → notices_between (without_first s u.0 d.0) l a b ≡ notices_between s l a b
notices-without s u d a b m rest l was apart = without-these (is_notice_of l) s u d a b m rest was apart
