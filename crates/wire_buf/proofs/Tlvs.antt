-- Reading TLVs for the value of a type.
use Rattle.std.proofs.{Common.{◌≡◌, ◌≢◌, ℕ, ◌≤◌, ◌==◌, Bool, true, false, Option, Some, None, List, [], ◌∷◌, ◌++◌, length, take, drop, map, refl, ap, sym, ◌∙◌, arith, Bor}, lemmas.List.{append-nil, map-append}, lemmas.List.Elements.filter-append}
use Rattle.std.specs.{List.filter, Option.{is_some, option_copied, option_to_list}}
use Rattle.wire_buf.specs.Tlvs.{AreTlvs, BeginsTlv, TypeValue, tlv_size, values_of}
use Rattle.wire_buf.proofs.Sequences.{BeginsOnce, ReadItems, ends, goes_on, next, same_items}

pub tlvs_once : (counted : ℕ) → BeginsOnce (BeginsTlv counted) tlv_size
tlvs_once counted = record { same = same; within = λ bytes t is. (omega arith, is.size) } where
  same : (bytes : List ℕ) (a b : TypeValue) → BeginsTlv counted bytes a → BeginsTlv counted bytes b → a ≡ b
  same bytes a b p q =
      let kind : a.kind ≡ b.kind = p.kind ∙ sym q.kind in
      let len : length a.value ≡ length b.value = omega (arith, p.len, q.len) in
      let value : a.value ≡ b.value = p.value ∙ ap (λ (n : ℕ). take n (drop 4 bytes)) len ∙ sym q.value in
      λ i. record { kind = kind i; value = value i }

values_of-append : (kind : ℕ) (xs ys : List TypeValue) →
    values_of kind (xs ++ ys) ≡ values_of kind xs ++ values_of kind ys
values_of-append kind xs ys =
    ap (map (λ t. t.value)) (filter-append (λ t. t.kind == kind) xs ys)
    ∙ map-append (λ t. t.value) (filter (λ t. t.kind == kind) xs) (filter (λ t. t.kind == kind) ys)

values_of-same : (kind : ℕ) (t : TypeValue) → t.kind ≡ kind → values_of kind (t ∷ []) ≡ t.value ∷ []
values_of-same kind t e = let same : (t.kind == kind) ≡ true = grind arith in rw same refl

values_of-other : (kind : ℕ) (t : TypeValue) → t.kind ≢ kind → values_of kind (t ∷ []) ≡ []
values_of-other kind t ne = let other : (t.kind == kind) ≡ false = grind arith in rw other refl

-- what a scan for a type has found so far
pub record Scanned (counted kind : ℕ) (bytes left : List ℕ) (found : Option (List ℕ)) : Type 0 where
  pub ts : List TypeValue
  pub read : ReadItems (BeginsTlv counted) tlv_size bytes left ts
  pub values : values_of kind ts ≡ option_to_list found

pub scan_other : (counted kind : ℕ) (bytes left after : List ℕ) (found : Option (List ℕ)) (t : TypeValue) →
    BeginsTlv counted left t → after ≡ drop (tlv_size t) left → t.kind ≢ kind → Scanned counted kind bytes left found →
    Scanned counted kind bytes after found
scan_other counted kind bytes left after found t is e ne f = record {
  ts = f.ts ++ t ∷ [];
  read = goes_on (tlvs_once counted) bytes left after f.ts t is e f.read;
  values = values_of-append kind f.ts (t ∷ []) ∙ rw (values_of-other kind t ne, append-nil) f.values;
}

pub scan_finds : (counted kind : ℕ) (bytes left after : List ℕ) (found : Option (List ℕ)) (t : TypeValue) →
    BeginsTlv counted left t → after ≡ drop (tlv_size t) left → t.kind ≡ kind → found ≡ None →
    Scanned counted kind bytes left found → Scanned counted kind bytes after (Some t.value)
scan_finds counted kind bytes left after found t is e same none f = record {
  ts = f.ts ++ t ∷ [];
  read = goes_on (tlvs_once counted) bytes left after f.ts t is e f.read;
  values = values_of-append kind f.ts (t ∷ []) ∙ rw (values_of-same kind t same, f.values, none) refl;
}

two_at_least : (kind : ℕ) (found : Option (List ℕ)) (v : List ℕ) (t : TypeValue) (ts more all : List TypeValue) →
    found ≡ Some v → t.kind ≡ kind → values_of kind ts ≡ option_to_list found → all ≡ (ts ++ t ∷ []) ++ more →
    2 ≤ length (values_of kind all)
two_at_least kind found v t ts more all some same values e =
    let there : values_of kind all ≡ (values_of kind ts ++ values_of kind (t ∷ [])) ++ values_of kind more =
    ap (values_of kind) e ∙ values_of-append kind (ts ++ t ∷ []) more
    ∙ ap (λ (vs : List (List ℕ)). vs ++ values_of kind more) (values_of-append kind ts (t ∷ [])) in
    let shown : values_of kind all ≡ (v ∷ [] ++ t.value ∷ []) ++ values_of kind more =
    there ∙ rw (values, some, values_of-same kind t same) refl in
    omega (arith, ap length shown)

pub scan_twice : (counted kind : ℕ) (bytes left : List ℕ) (found : Option (List ℕ)) (v : List ℕ) (t : TypeValue) →
    BeginsTlv counted left t → found ≡ Some v → t.kind ≡ kind → Scanned counted kind bytes left found →
    (all : List TypeValue) → AreTlvs counted bytes all → 2 ≤ length (values_of kind all)
scan_twice counted kind bytes left found v t is some same f all are =
    let o = f.read.only all are in
    let n = next (tlvs_once counted) left t f.ts all o.0 is o.1 o.2 in
    two_at_least kind found v t f.ts n.0 all some same f.values n.1

pub scan_some : (counted kind : ℕ) (bytes left : List ℕ) (found : Option (List ℕ)) → left ≡ [] →
    Scanned counted kind bytes left found → (ts : List TypeValue) × AreTlvs counted bytes ts
scan_some counted kind bytes left found none f = (f.ts, ends bytes left f.ts none f.read)

pub scan_value : (counted kind : ℕ) (bytes left : List ℕ) (found : Option (List ℕ)) → left ≡ [] →
    Scanned counted kind bytes left found → (all : List TypeValue) → AreTlvs counted bytes all →
    values_of kind all ≡ option_to_list found
scan_value counted kind bytes left found none f all are =
    ap (values_of kind) (same_items (tlvs_once counted) bytes all f.ts are (ends bytes left f.ts none f.read))
    ∙ f.values

pub found_none : (o : Option (Bor (List ℕ))) (b : Bool) → b ≡ is_some o → b ≡ false → option_copied o ≡ None
found_none None b is test = refl
found_none (Some v) b is test = absurd (cc)

pub found_some : (o : Option (Bor (List ℕ))) (b : Bool) → b ≡ is_some o → b ≡ true →
    (v : List ℕ) × (option_copied o ≡ Some v)
found_some None b is test = absurd (cc)
found_some (Some v) b is test = (v.now, refl)
