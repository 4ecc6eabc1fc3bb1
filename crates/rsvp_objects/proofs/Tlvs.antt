-- Reading the IF_INDEX among TLVs.
use Rattle.std.proofs.Common.{◌≡◌, ℕ, List, [], ◌∷◌, Option, None, Some}
use Rattle.std.specs.Option.{option_to_list}
use Rattle.ason_base.specs.declared.ids.LinkId.{LinkId}
use Rattle.wire_buf.specs.Codecs.{Reads}
use Rattle.wire_buf.proofs.Codecs.{reads_none, reads_some}
use Rattle.rsvp_objects.specs.Tlvs.{HasIfIndexes}

-- where at most one link is read, that one is, or none
pub just_one : (bytes : List ℕ) (link : Option LinkId) →
    Reads (λ l. HasIfIndexes bytes (option_to_list l)) (Some link) →
    Reads (λ l. HasIfIndexes bytes (l ∷ [])) link
just_one bytes None read = reads_none (λ l has. let e : Some None ≡ Some (Some l) = read.only (Some l) has in absurd cc)
just_one bytes (Some k) read =
    reads_some k read.found (λ l has. let e : Some (Some k) ≡ Some (Some l) = read.only (Some l) has in cc)

pub not_one : (bytes : List ℕ) → Reads (λ l. HasIfIndexes bytes (option_to_list l)) None →
    Reads (λ l. HasIfIndexes bytes (l ∷ [])) None
not_one bytes read = reads_none (λ l has. let e : None ≡ Some (Some l) = read.only (Some l) has in absurd cc)
