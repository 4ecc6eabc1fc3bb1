-- Bytes that are written as objects are those objects, and a sealed message has its header.
use Rattle.std.proofs.{Common.{◌≡◌, ◌<◌, ℕ, ◌+◌, ◌%◌, ◌^◌, List, [], ◌∷◌, ◌++◌, length, inr, refl, sym, subst, ◌∙◌, arith, length-append}, Math.Seq.take-append_seam, lemmas.List.drop_at}
use Rattle.std.specs.{List.AllByRecursion, Prelude.IsTrue}
use Rattle.byteorder.specs.{Endian.big_bytes, Numbers.big_number-reads_back}
use Rattle.wire_buf.specs.Checksum.{checksum_of}
use Rattle.rsvp_messages.specs.{Headers.HasHeader, Objects.{AreObjects, BeginsWith, Object, may_stand, size_of}, Written.{all_bytes, bytes_of, header_bytes, message}}

-- an object that its header can tell
pub record IsWholeObject (o : Object) : Type 0 where
  pub short : size_of o < 2 ^ 16
  pub whole : size_of o % 4 ≡ 0
  pub class : o.class < 2 ^ 8
  pub ctype : o.ctype < 2 ^ 8
  pub stands : IsTrue (may_stand o.class)

bytes-length : (o : Object) → length (bytes_of o) ≡ size_of o
bytes-length o = omega arith

begins_again : (o : Object) (rest : List ℕ) → IsWholeObject o → BeginsWith (bytes_of o ++ rest) o
begins_again o rest w =
    let tail : List ℕ = big_bytes 1 o.class ++ (big_bytes 1 o.ctype ++ (o.body ++ rest)) in
    record {
      size = sym (big_number-reads_back 2 (size_of o) tail w.short);
      whole = w.whole;
      within = omega (arith, length-append (bytes_of o) rest, bytes-length o);
      class = sym (big_number-reads_back 1 o.class (big_bytes 1 o.ctype ++ (o.body ++ rest)) w.class);
      ctype = sym (big_number-reads_back 1 o.ctype (o.body ++ rest) w.ctype);
      body = sym (take-append_seam o.body rest);
      stands = w.stands;
    }

pub objects_again : (os : List Object) → AllByRecursion IsWholeObject os → AreObjects (all_bytes os) os
objects_again [] whole = refl
objects_again (o ∷ os) whole = (
  begins_again o (all_bytes os) whole.0,
  subst (λ (l : List ℕ). AreObjects l os)
      (sym (drop_at (bytes_of o) (all_bytes os) (size_of o) (bytes-length o))) (objects_again os whole.1),
)

checksum-small : (bytes : List ℕ) → checksum_of bytes < 2 ^ 16
checksum-small bytes = omega arith

pub header_again : (kind : ℕ) (body : List ℕ) → kind < 2 ^ 8 → 8 + length body < 2 ^ 16 →
    HasHeader (message kind body) kind
header_again kind body small short =
    let len : ℕ = 8 + length body in
    let checksum : ℕ = checksum_of (header_bytes kind 0 len ++ body) in
    record {
      long = omega (arith, length-append (header_bytes kind checksum len) body);
      version = refl;
      type_is = omega arith;
      checksum =
          inr (big_number-reads_back 2 checksum ((0x01 ∷ 0x00 ∷ big_bytes 2 len) ++ body)
          (checksum-small (header_bytes kind 0 len ++ body)));
      size =
          big_number-reads_back 2 len body short ∙ omega (arith, length-append (header_bytes kind checksum len) body);
    }
