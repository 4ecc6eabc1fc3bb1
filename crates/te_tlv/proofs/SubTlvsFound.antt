-- One pass over sub-TLVs finds the values of all types that a row reads.
use Rattle.std.proofs.Common.{◌≡◌, ◌≤◌, inl, inr, ℕ, Option, Some, None, List, [], ◌∷◌, length, drop, ap, sym, subst, ◌∙◌, arith, Bor, IfNone, IfSome}
use Rattle.std.specs.Option.{option_copied, option_to_list}
use Rattle.ason_base.specs.{declared.ids.NodeId.NodeId, declared.network.TeRow.TeRow}
use Rattle.wire_buf.specs.Tlvs.{AreTlvs, BeginsTlv, TypeValue, tlv_size, values_of}
use Rattle.wire_buf.proofs.Tlvs.{Scanned, scan_finds, scan_other, scan_twice, scan_value}
use Rattle.te_tlv.specs.{declared.found.Found.Found, declared.found.Needed.Needed, declared.found.Needed.TheVariants.{LinkType, LinkId, Metric, Identifiers}, Found.{AreFound, HasAnother, HasKeptSub, IsAnother, IsSubKept, OfFound, StandOnce, found_of, needed_type}, Rows.{IsOnly, IsRow, SrlgsOf}}

-- what a pass has found so far of each type
pub record FoundSoFar (bytes left : List ℕ) (f : Found) : Type 0 where
  pub link_type : Scanned 0 1 bytes left (option_copied f.link_type)
  pub link_id : Scanned 0 2 bytes left (option_copied f.link_id)
  pub metric : Scanned 0 5 bytes left (option_copied f.metric)
  pub identifiers : Scanned 0 11 bytes left (option_copied f.identifiers)
  pub srlgs : Scanned 0 16 bytes left (option_copied f.srlgs)

scanned_on : (wanted : ℕ) (bytes left after : List ℕ) (t : TypeValue) (old new : Option (List ℕ)) →
    BeginsTlv 0 left t → after ≡ drop (tlv_size t) left → IsSubKept wanted t.kind t.value old new →
    Scanned 0 wanted bytes left old → Scanned 0 wanted bytes after new
scanned_on wanted bytes left after t old new is e (inl kept) f =
    subst (Scanned 0 wanted bytes after) (sym kept.2) (scan_finds 0 wanted bytes left after old t is e kept.0 kept.1 f)
scanned_on wanted bytes left after t old new is e (inr kept) f =
    subst (Scanned 0 wanted bytes after) (sym kept.1) (scan_other 0 wanted bytes left after old t is e kept.0 f)

-- a sub-TLV more
pub found_on : (bytes left after : List ℕ) (t : TypeValue) (f g : Found) → BeginsTlv 0 left t →
    after ≡ drop (tlv_size t) left → HasKeptSub t.kind t.value f g → FoundSoFar bytes left f → FoundSoFar bytes after g
found_on bytes left after t f g is e kept so_far = record {
  link_type = scanned_on 1 bytes left after t (option_copied f.link_type) (option_copied g.link_type) is e
      kept.link_type so_far.link_type;
  link_id = scanned_on 2 bytes left after t (option_copied f.link_id) (option_copied g.link_id) is e
      kept.link_id so_far.link_id;
  metric = scanned_on 5 bytes left after t (option_copied f.metric) (option_copied g.metric) is e
      kept.metric so_far.metric;
  identifiers = scanned_on 11 bytes left after t (option_copied f.identifiers) (option_copied g.identifiers) is e
      kept.identifiers so_far.identifiers;
  srlgs = scanned_on 16 bytes left after t (option_copied f.srlgs) (option_copied g.srlgs) is e
      kept.srlgs so_far.srlgs;
}

stands_twice : (wanted : ℕ) (bytes left : List ℕ) (t : TypeValue) (old : Option (List ℕ)) → BeginsTlv 0 left t →
    IsAnother wanted t.kind old → Scanned 0 wanted bytes left old → (all : List TypeValue) → AreTlvs 0 bytes all →
    length (values_of wanted all) ≤ 1 → ⊥
stands_twice wanted bytes left t old is another f all are once =
    let twice = scan_twice 0 wanted bytes left old another.1 t is another.2 another.0 f all are in
    absurd (omega (arith, twice, once))

-- where one was found before, a type stands there twice
pub found_twice : (bytes left : List ℕ) (t : TypeValue) (f : Found) → BeginsTlv 0 left t → HasAnother t.kind f →
    FoundSoFar bytes left f → (all : List TypeValue) → AreTlvs 0 bytes all → StandOnce all → ⊥
found_twice bytes left t f is (inl another) so_far all are once =
    stands_twice 1 bytes left t (option_copied f.link_type) is another so_far.link_type all are once.link_type
found_twice bytes left t f is (inr (inl another)) so_far all are once =
    stands_twice 2 bytes left t (option_copied f.link_id) is another so_far.link_id all are once.link_id
found_twice bytes left t f is (inr (inr (inl another))) so_far all are once =
    stands_twice 5 bytes left t (option_copied f.metric) is another so_far.metric all are once.metric
found_twice bytes left t f is (inr (inr (inr (inl another)))) so_far all are once =
    stands_twice 11 bytes left t (option_copied f.identifiers) is another so_far.identifiers all are once.identifiers
found_twice bytes left t f is (inr (inr (inr (inr another)))) so_far all are once =
    stands_twice 16 bytes left t (option_copied f.srlgs) is another so_far.srlgs all are once.srlgs

-- at the end all is found
pub found_all : (bytes left : List ℕ) (f : Found) → left ≡ [] → FoundSoFar bytes left f → (all : List TypeValue) →
    AreTlvs 0 bytes all → AreFound f all
found_all bytes left f none so_far all are = record {
  link_type = scan_value 0 1 bytes left (option_copied f.link_type) none so_far.link_type all are;
  link_id = scan_value 0 2 bytes left (option_copied f.link_id) none so_far.link_id all are;
  metric = scan_value 0 5 bytes left (option_copied f.metric) none so_far.metric all are;
  identifiers = scan_value 0 11 bytes left (option_copied f.identifiers) none so_far.identifiers all are;
  srlgs = scan_value 0 16 bytes left (option_copied f.srlgs) none so_far.srlgs all are;
}

-- What was found of one type

pub needed_is : (needed : Needed) (f : Found) (o : Option (Bor (List ℕ))) → option_copied o ≡ found_of f needed →
    (subs : List TypeValue) → AreFound f subs → values_of (needed_type needed) subs ≡ option_to_list (option_copied o)
needed_is LinkType f o is subs are = are.link_type ∙ ap option_to_list (sym is)
needed_is LinkId f o is subs are = are.link_id ∙ ap option_to_list (sym is)
needed_is Metric f o is subs are = are.metric ∙ ap option_to_list (sym is)
needed_is Identifiers f o is subs are = are.identifiers ∙ ap option_to_list (sym is)

pub only_one : (kind : ℕ) (f : Found) (o : Option (Bor (List ℕ))) →
    ((subs : List TypeValue) → AreFound f subs → values_of kind subs ≡ option_to_list (option_copied o)) →
    IfSome o (λ value. OfFound f (λ subs. IsOnly kind subs value.now))
only_one kind f None is = tt
only_one kind f (Some v) is = is

pub not_only : (kind : ℕ) (f : Found) (o : Option (Bor (List ℕ))) →
    ((subs : List TypeValue) → AreFound f subs → values_of kind subs ≡ option_to_list (option_copied o)) →
    IfNone o (OfFound f (λ subs. (value : List ℕ) → IsOnly kind subs value → ⊥))
not_only kind f None is = λ subs are value only. absurd (let none = is subs are in cc (none, only))
not_only kind f (Some v) is = tt

-- where one is missing, there is no number that it would give
pub none_of : {X : Type 0} (o : Option X) (f : Found) (P : List TypeValue → ℕ → Type 0) →
    ((subs : List TypeValue) → AreFound f subs → (n : ℕ) → P subs n → ⊥) →
    IfNone o (OfFound f (λ subs. (n : ℕ) → P subs n → ⊥))
none_of None f P none = none
none_of (Some x) f P none = tt

-- In the sub-TLVs of a row no type that it reads stands twice

one : (values : List (List ℕ)) (value : List ℕ) → values ≡ value ∷ [] → length values ≤ 1
one values value e = omega (arith, ap length e)

few_srlgs : (values : List (List ℕ)) (srlgs : List ℕ) → SrlgsOf values srlgs → length values ≤ 1
few_srlgs [] srlgs are = omega arith
few_srlgs (v ∷ []) srlgs are = omega arith
few_srlgs (v ∷ w ∷ more) srlgs are = absurd are

pub stand_once : (origin : NodeId) (subs : List TypeValue) (row : TeRow) → IsRow origin subs row → StandOnce subs
stand_once origin subs row is = record {
  link_type = one (values_of 1 subs) (1 ∷ []) is.fields.point_to_point;
  link_id = one (values_of 2 subs) is.fields.has_peer.0 is.fields.has_peer.1;
  metric = one (values_of 5 subs) is.fields.has_metric.0 is.fields.has_metric.1;
  identifiers = one (values_of 11 subs) is.fields.has_link.0 is.fields.has_link.1;
  srlgs = few_srlgs (values_of 16 subs) row.srlgs is.has_srlgs;
}
