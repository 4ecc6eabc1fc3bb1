-- Bodies with TLVs behind their first eight bytes.
use Rattle.std.proofs.{Common.{◌≡◌, ◌≤◌, ℕ, ◌-◌, List, length, take, drop, Option, None, Some, [], ◌∷◌, refl, ap, sym, subst, ◌∙◌, arith, length-drop}, lemmas.List.take_all}
use Rattle.std.specs.Option.{option_to_list}
use Rattle.ason_base.specs.declared.ids.LinkId.{LinkId}
use Rattle.wire_buf.specs.{Codecs.Reads, Objects.number_at}
use Rattle.wire_buf.proofs.Codecs.{reads_none, reads_some}
use Rattle.rsvp_objects.specs.{declared.error.ErrorSpec.ErrorSpec, Bodies.{IsError, IsHop, spec_at}, Tlvs.HasIfIndexes}

-- a slice to the end
abbrev pub behind : List ℕ → List ℕ
behind body = take (length body - 8) (drop 8 body)

to_the_end : (body : List ℕ) → behind body ≡ drop 8 body
to_the_end body = take_all (length body - 8) (drop 8 body) (omega (arith, length-drop 8 body))

module _ (body : List ℕ) {X Y : Type 0} (Means : X → Type 0) (links : Y → List LinkId) (linked : X → Y) where
  -- where the TLVs mean nothing, the body doesn't
  pub none_behind : ((x : X) → Means x → HasIfIndexes (drop 8 body) (links (linked x))) →
      Reads (λ y. HasIfIndexes (behind body) (links y)) None → Reads Means None
  none_behind has read = reads_none (λ x means.
      let e : None ≡ Some (linked x) =
      read.only (linked x) (subst (λ (l : List ℕ). HasIfIndexes l (links (linked x))) (sym (to_the_end body))
      (has x means)) in
      absurd cc)

  -- where they are read, the body is what the eight bytes before them say
  pub read_behind : (x : X) (y : Y) → ((z : X) → Means z → HasIfIndexes (drop 8 body) (links (linked z))) →
      (HasIfIndexes (drop 8 body) (links y) → Means x) → ((z : X) → Means z → y ≡ linked z → x ≡ z) →
      Reads (λ y. HasIfIndexes (behind body) (links y)) (Some y) → Reads Means (Some x)
  read_behind x y has is once read =
      let all = to_the_end body in
      reads_some x (is (subst (λ (l : List ℕ). HasIfIndexes l (links y)) all read.found)) (λ z means.
      let e : Some y ≡ Some (linked z) =
      read.only (linked z) (subst (λ (l : List ℕ). HasIfIndexes l (links (linked z))) (sym all) (has z means)) in
      once z means cc)

pub error_read : (body : List ℕ) (spec : ErrorSpec) (link : Option LinkId) → 8 ≤ length body →
    spec ≡ spec_at body link →
    Reads (λ l. HasIfIndexes (behind body) (option_to_list l)) (Some link) → Reads (IsError body) (Some spec)
error_read body spec link long e =
    read_behind body (IsError body) option_to_list (λ s. s.link) spec link (λ s is. is.2)
    (λ has. subst (IsError body) (sym e) (long, refl, has)) (λ s is same. e ∙ ap (spec_at body) same ∙ sym is.1)

pub no_error : (body : List ℕ) → Reads (λ l. HasIfIndexes (behind body) (option_to_list l)) None →
    Reads (IsError body) None
no_error body = none_behind body (IsError body) option_to_list (λ s. s.link) (λ s is. is.2)

pub hop_read : (body : List ℕ) (sender : ℕ) (link : LinkId) → 8 ≤ length body → sender ≡ number_at 0 4 body →
    Reads (λ l. HasIfIndexes (behind body) (l ∷ [])) (Some link) →
    Reads (IsHop body) (Some (record { sender = record { 0 = sender }; link = link }))
hop_read body sender link long e =
    let node : record { 0 = sender } ≡ record { 0 = number_at 0 4 body } = ap (λ (n : ℕ). record { 0 = n }) e in
    read_behind body (IsHop body) (λ l. l ∷ []) (λ h. h.link) (record {
      sender =
          record { 0 = sender };
      link = link;
    }) link
    (λ h is. is.2) (λ has. (long, node, has))
    (λ h is same. let from = node ∙ sym is.1 in λ i. record { sender = from i; link = same i })

pub no_hop : (body : List ℕ) → Reads (λ l. HasIfIndexes (behind body) (l ∷ [])) None → Reads (IsHop body) None
no_hop body = none_behind body (IsHop body) (λ l. l ∷ []) (λ h. h.link) (λ h is. is.2)
