-- What the messages of each type share: only such messages, with these parts, are spelled.
use Rattle.std.proofs.{Common.{◌≡◌, ℕ, Option, Some, None, true, false, List, [], ◌∷◌, inl, inr, sym, ◌∙◌, arith}, lemmas.Option.{none-some, same_Some}}
use Rattle.ason_base.specs.{declared.ids.LinkId.LinkId, declared.ids.Lsp.Lsp, declared.ids.NodeId.NodeId, declared.messages.Msg.Msg, declared.messages.Msg.TheVariants.{Path, Resv, PathTear, PathErr, Notify}}
use Rattle.rsvp_objects.specs.{declared.error.ErrorSpec.ErrorSpec, declared.hop.HopObject.HopObject, Bodies.{IsError, IsErrorIpv4, IsLabel}}
use Rattle.rsvp_messages.specs.{declared.fields.Subject.Subject, Messages.{ComesOver, HasError, NamesLsp, is_removed}, Objects.{Object, of_class}, Packets.SpellsTyped, Parts.HasOne}
use Rattle.rsvp_messages.proofs.Lookups.{means_here, same_ctype}

pub only_tear : (os : List Object) (r : Option Msg) → ((l : Lsp) (e : NodeId) (k : LinkId) → NamesLsp 11 os l e →
    ComesOver os k → r ≡ Some (PathTear l e k)) →
    (m : Msg) → SpellsTyped 5 os m → r ≡ Some m
only_tear os r is (PathTear l e k) typed = is l e k typed.1.0 typed.1.1
only_tear os r is (Path l e k route set up role) typed = absurd (omega (arith, typed.0))
only_tear os r is (Resv l e k x) typed = absurd (omega (arith, typed.0))
only_tear os r is (PathErr l e n b x) typed = absurd (omega (arith, typed.0))
only_tear os r is (Notify l e n k x) typed = absurd (omega (arith, typed.0))

pub only_resv : (os : List Object) (r : Option Msg) → ((l : Lsp) (e : NodeId) (k : LinkId) (x : ℕ) →
    NamesLsp 10 os l e → ComesOver os k → HasOne 16 2 (λ body. IsLabel body x) os → r ≡ Some (Resv l e k x)) →
    (m : Msg) → SpellsTyped 2 os m → r ≡ Some m
only_resv os r is (Resv l e k x) typed = is l e k x typed.1.0 typed.1.1 typed.1.2
only_resv os r is (Path l e k route set up role) typed = absurd (omega (arith, typed.0))
only_resv os r is (PathTear l e k) typed = absurd (omega (arith, typed.0))
only_resv os r is (PathErr l e n b x) typed = absurd (omega (arith, typed.0))
only_resv os r is (Notify l e n k x) typed = absurd (omega (arith, typed.0))

pub only_path_err : (os : List Object) (r : Option Msg) →
    ((l : Lsp) (e : NodeId) (x : ErrorSpec) → NamesLsp 11 os l e → HasError os x →
    r ≡ Some (PathErr l e x.node (is_removed x) x.code)) →
    (m : Msg) → SpellsTyped 3 os m → r ≡ Some m
only_path_err os r is (PathErr l e n b x) typed =
    let w = typed.1.1 in
    let a : w.0.node ≡ n = sym w.2 in
    let q : is_removed w.0 ≡ b = sym w.3 in
    let z : w.0.code ≡ x = sym w.4 in
    is l e w.0 typed.1.0 w.1 ∙ (λ i. Some (PathErr l e (a i) (q i) (z i)))
only_path_err os r is (Path l e k route set up role) typed = absurd (omega (arith, typed.0))
only_path_err os r is (Resv l e k x) typed = absurd (omega (arith, typed.0))
only_path_err os r is (PathTear l e k) typed = absurd (omega (arith, typed.0))
only_path_err os r is (Notify l e n k x) typed = absurd (omega (arith, typed.0))

pub only_notify : (os : List Object) (r : Option Msg) →
    ((l : Lsp) (e : NodeId) (x : ErrorSpec) (k : LinkId) → NamesLsp 11 os l e → HasOne 6 3 (λ body. IsError body x) os →
    x.link ≡ Some k → r ≡ Some (Notify l e x.node k x.code)) →
    (m : Msg) → SpellsTyped 21 os m → r ≡ Some m
only_notify os r is (Notify l e n k x) typed =
    let w = typed.1.1 in
    let a : w.0.node ≡ n = sym w.3 in
    let z : w.0.code ≡ x = sym w.4 in
    is l e w.0 k typed.1.0 w.1 w.2 ∙ (λ i. Some (Notify l e (a i) k (z i)))
only_notify os r is (Path l e k route set up role) typed = absurd (omega (arith, typed.0))
only_notify os r is (Resv l e k x) typed = absurd (omega (arith, typed.0))
only_notify os r is (PathTear l e k) typed = absurd (omega (arith, typed.0))
only_notify os r is (PathErr l e n b x) typed = absurd (omega (arith, typed.0))

-- the same subject, link and label
pub tear_is : (subject : Subject) (link : LinkId) (l : Lsp) (e : NodeId) (k : LinkId) →
    Some subject ≡ Some (record { lsp = l; egress = e }) → Some link ≡ Some k →
    Some (PathTear subject.lsp subject.egress link) ≡ Some (PathTear l e k)
tear_is subject link l e k a b =
    let s = same_Some _ _ a in let q = same_Some _ _ b in λ i. Some (PathTear (s i).lsp (s i).egress (q i))

pub resv_is : (subject : Subject) (link : LinkId) (label : ℕ) (l : Lsp) (e : NodeId) (k : LinkId) (x : ℕ) →
    Some subject ≡ Some (record { lsp = l; egress = e }) → Some link ≡ Some k → Some label ≡ Some x →
    Some (Resv subject.lsp subject.egress link label) ≡ Some (Resv l e k x)
resv_is subject link label l e k x a b d =
    let s = same_Some _ _ a in
    let q = same_Some _ _ b in let y = same_Some _ _ d in λ i. Some (Resv (s i).lsp (s i).egress (q i) (y i))

pub link_is : (hop : HopObject) (sender : NodeId) (link : LinkId) →
    Some hop ≡ Some (record { sender = sender; link = link }) → Some hop.link ≡ Some link
link_is hop sender link e = let h = same_Some _ _ e in λ i. Some (h i).link

-- an ERROR_SPEC without an interface was found, or none
pub error_is_plain : (os : List Object) (body : List ℕ) (r : Option ErrorSpec) →
    of_class 6 os ≡ record { class = 6; ctype = 1; body = body } ∷ [] →
    ((e : ErrorSpec) → IsErrorIpv4 body e → r ≡ Some e) → (e : ErrorSpec) → HasError os e → r ≡ Some e
error_is_plain os body r one only e (inl has) =
    absurd (let t : 1 ≡ 3 = same_ctype 6 1 3 _ os body one has in omega (arith, t))
error_is_plain os body r one only e (inr has) = only e (means_here 6 1 _ os body one has)

pub error_is_other : (os : List Object) (r : Option ErrorSpec) →
    ((body : List ℕ) → of_class 6 os ≡ record { class = 6; ctype = 1; body = body } ∷ [] → false ≡ true) →
    ((e : ErrorSpec) → HasOne 6 3 (λ body. IsError body e) os → r ≡ Some e) →
    (e : ErrorSpec) → HasError os e → r ≡ Some e
error_is_other os r none only e (inl has) = only e has
error_is_other os r none only e (inr has) = absurd (cc (none has.body has.one))

pub no_link : (error x : ErrorSpec) (k : LinkId) → Some error ≡ Some x → x.link ≡ Some k → error.link ≡ None → ⊥
no_link error x k e g none = let same = same_Some _ _ e in none-some k (sym none ∙ (λ i. (same i).link) ∙ g)

pub notify_is : (subject : Subject) (error : ErrorSpec) (link : LinkId) (l : Lsp) (e : NodeId) (x : ErrorSpec)
    (k : LinkId) → Some subject ≡ Some (record { lsp = l; egress = e }) → Some error ≡ Some x → error.link ≡ Some link →
    x.link ≡ Some k →
    Some (Notify subject.lsp subject.egress error.node link error.code) ≡ Some (Notify l e x.node k x.code)
notify_is subject error link l e x k a b f g =
    let s = same_Some _ _ a in let q = same_Some _ _ b in let y = same_Some link k (sym f ∙ (λ i. (q i).link) ∙ g) in
    λ i. Some (Notify (s i).lsp (s i).egress (q i).node (y i) (q i).code)
