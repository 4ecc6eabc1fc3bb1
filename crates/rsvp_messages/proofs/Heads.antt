-- The header of an object, in its first four bytes.
use Rattle.std.proofs.{Common.{◌≡◌, ◌≤◌, ◌-◌, ◌%◌, ℕ, List, length, take, drop, arith, IsTrue, ap, sym, ◌∙◌, length-take, length-drop, ◌+◌}, lemmas.List.drop-drop}
use Rattle.rsvp_messages.specs.Objects.{BeginsWith, may_stand}
use Rattle.wire_buf.specs.Objects.{number_at}

-- The object behind such a header, as far as its length goes.
pub object_there : (bytes behind body after : List ℕ) (len class ctype : ℕ) → len ≡ number_at 0 2 bytes
    → class ≡ number_at 2 1 bytes → ctype ≡ number_at 3 1 bytes → 4 ≤ length bytes → behind ≡ drop 4 bytes
    → 4 ≤ len → len % 4 ≡ 0 → IsTrue (may_stand class) → len - 4 ≤ length behind
    → body ≡ take (len - 4) behind → after ≡ drop (len - 4) behind
    → BeginsWith bytes (record { class = class; ctype = ctype; body = body }) × (after ≡ drop (4 + length body) bytes)
object_there bytes behind body after len class ctype is_len is_class is_ctype there is_behind long whole stands within
    is_body is_after =
    let left : length behind ≡ length bytes - 4 = ap length is_behind ∙ length-drop 4 bytes in
    let count : length body ≡ len - 4 = omega (arith, ap length is_body, length-take (len - 4) behind) in (
      record {
        size = omega (arith, count) ∙ is_len;
        whole = ap (λ (n : ℕ). n % 4) (omega (arith, count)) ∙ whole;
        within = omega (arith, count, left);
        class = is_class;
        ctype = is_ctype;
        body =
            is_body ∙ ap (λ (l : List ℕ). take (len - 4) l) is_behind
            ∙ ap (λ (n : ℕ). take n (drop 4 bytes)) (sym count);
        stands = stands;
      },
      is_after ∙ ap (drop (len - 4)) is_behind ∙ drop-drop (len - 4) 4 bytes
          ∙ ap (λ (n : ℕ). drop n bytes) (omega (arith, count)),
    )
