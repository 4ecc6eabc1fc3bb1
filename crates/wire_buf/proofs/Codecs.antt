-- What a reader and a writer show at each of their ends.
use Rattle.std.proofs.Common.{◌≡◌, Some, None, Result, Ok, Err, ap, sym, ◌∙◌, ◌<◌, ◌+◌, ◌++◌, ℕ, List, length, IsErr, OnOk, vec_len, vec_capacity}
use Rattle.std.specs.Global.{Vec}
use Rattle.ason_base.specs.{declared.messages.DecodeError.DecodeError, declared.messages.DecodeError.TheVariants.NotMessage}
use Rattle.wire_buf.specs.Codecs.{AppendsBytes, Decodes, HasOneMeaning, Reads}

module _ {X : Type 0} {Means : X → Type 0} where
  -- None, since the bytes mean nothing
  pub reads_none : ((x : X) → Means x → ⊥) → Reads Means None
  reads_none none = record { found = tt; only = λ x means. absurd (none x means) }

  -- this, since the bytes mean it and nothing else
  pub reads_some : (x : X) → Means x → ((y : X) → Means y → x ≡ y) → Reads Means (Some x)
  reads_some x means once = record { found = means; only = λ y other. ap (λ (z : X). Some z) (once y other) }

  pub decodes_none : ((x : X) → Means x → ⊥) → Decodes Means (Err NotMessage)
  decodes_none none = record { found = tt; only = λ x means. tt; not_message = λ e. none }

  -- Where bytes are read, they have one meaning.
  pub one_meaning : (r : Result X DecodeError) → Decodes Means r → OnOk r (HasOneMeaning Means)
  one_meaning (Ok z) decodes = λ x y means other. sym (decodes.only x means) ∙ decodes.only y other
  one_meaning (Err e) decodes = tt

  pub decodes_some : (x : X) → Means x → ((y : X) → Means y → x ≡ y) → Decodes Means (Ok x)
  decodes_some x means once = record { found = means; only = once; not_message = λ e y other. absurd cc }

module _ {X E : Type 0} {old new : Vec ℕ} {bytes : List ℕ} where
  pub appends_none : (r : Result X E) → IsErr r → new.items ≡ old.items →
      vec_capacity old < vec_len old + length bytes →
      AppendsBytes old new bytes r
  appends_none (Ok x) failed same full = absurd cc
  appends_none (Err e) failed same full = record { ok = tt; err = same; full = full }

  pub appends_all : (x : X) → new.items ≡ old.items ++ bytes → AppendsBytes {E = E} old new bytes (Ok x)
  appends_all x all = record { ok = all; err = tt; full = tt }
