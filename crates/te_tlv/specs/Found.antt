-- What one pass over sub-TLVs finds: of each type that a row reads the value, where there is one.
use Rattle.std.specs.{Prelude.{◌≡◌, ◌≢◌, ◌≤◌, ◌⊎◌, ℕ, Option, Some, None, List, length}, Option.{option_copied, option_to_list}}
use Rattle.wire_buf.specs.Tlvs.{TypeValue, values_of}
use Rattle.te_tlv.specs.{declared.found.Found.Found, declared.found.Needed.Needed, declared.found.Needed.TheVariants.{LinkType, LinkId, Metric, Identifiers}, declared.reading.TheConstants.{IDENTIFIERS, LINK_ID, LINK_TYPE, METRIC}, declared.srlgs.TheConstants.SRLG}

-- the type of a sub-TLV that each row has
abbrev pub needed_type : Needed → ℕ
needed_type LinkType = LINK_TYPE
needed_type LinkId = LINK_ID
needed_type Metric = METRIC
needed_type Identifiers = IDENTIFIERS

-- what was found of it
abbrev pub found_of : Found → Needed → Option (List ℕ)
found_of f LinkType = option_copied f.link_type
found_of f LinkId = option_copied f.link_id
found_of f Metric = option_copied f.metric
found_of f Identifiers = option_copied f.identifiers

-- the values of these types are those that were found
pub record AreFound (f : Found) (subs : List TypeValue) : Type 0 where
  pub link_type : values_of LINK_TYPE subs ≡ option_to_list (option_copied f.link_type)
  pub link_id : values_of LINK_ID subs ≡ option_to_list (option_copied f.link_id)
  pub metric : values_of METRIC subs ≡ option_to_list (option_copied f.metric)
  pub identifiers : values_of IDENTIFIERS subs ≡ option_to_list (option_copied f.identifiers)
  pub srlgs : values_of SRLG subs ≡ option_to_list (option_copied f.srlgs)

-- this holds of the sub-TLVs in which that was found
abbrev pub OfFound : Found → (List TypeValue → Type 0) → Type 0
OfFound f P = (subs : List TypeValue) → AreFound f subs → P subs

-- no type that a row reads stands twice
pub record StandOnce (subs : List TypeValue) : Type 0 where
  pub link_type : length (values_of LINK_TYPE subs) ≤ 1
  pub link_id : length (values_of LINK_ID subs) ≤ 1
  pub metric : length (values_of METRIC subs) ≤ 1
  pub identifiers : length (values_of IDENTIFIERS subs) ≤ 1
  pub srlgs : length (values_of SRLG subs) ≤ 1

-- One sub-TLV more

-- what was found of the type that is wanted, before a sub-TLV of this type and value and after it
abbrev pub IsSubKept : ℕ → ℕ → List ℕ → Option (List ℕ) → Option (List ℕ) → Type 0
IsSubKept wanted kind value old new =
    ((kind ≡ wanted) × (old ≡ None) × (new ≡ Some value)) ⊎ ((kind ≢ wanted) × (new ≡ old))

-- one of the wanted type was found, and this one is of it too
abbrev pub IsAnother : ℕ → ℕ → Option (List ℕ) → Type 0
IsAnother wanted kind old = (kind ≡ wanted) × (value : List ℕ) × (old ≡ Some value)

pub record HasKeptSub (kind : ℕ) (value : List ℕ) (old new : Found) : Type 0 where
  pub link_type : IsSubKept LINK_TYPE kind value (option_copied old.link_type) (option_copied new.link_type)
  pub link_id : IsSubKept LINK_ID kind value (option_copied old.link_id) (option_copied new.link_id)
  pub metric : IsSubKept METRIC kind value (option_copied old.metric) (option_copied new.metric)
  pub identifiers : IsSubKept IDENTIFIERS kind value (option_copied old.identifiers) (option_copied new.identifiers)
  pub srlgs : IsSubKept SRLG kind value (option_copied old.srlgs) (option_copied new.srlgs)

abbrev pub HasAnother : ℕ → Found → Type 0
HasAnother kind f =
    IsAnother LINK_TYPE kind (option_copied f.link_type)
    ⊎ (IsAnother LINK_ID kind (option_copied f.link_id)
    ⊎ (IsAnother METRIC kind (option_copied f.metric)
    ⊎ (IsAnother IDENTIFIERS kind (option_copied f.identifiers)
    ⊎ IsAnother SRLG kind (option_copied f.srlgs))))
