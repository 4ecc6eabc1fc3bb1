-- What every reader and every writer of fields and objects promises, whatever the object is.
use Rattle.std.specs.{Prelude.{◌≡◌, ◌<◌, ℕ, ◌+◌, List, ◌++◌, length, Option, Some, IfSome, Result, IfOk, OnOk, OnErr, IsErrOf, vec_len, vec_capacity}, Global.Vec}
use Rattle.ason_base.specs.{declared.messages.DecodeError.DecodeError, declared.messages.DecodeError.TheVariants.NotMessage}

-- What is read is what the bytes mean, and None comes exactly where they mean nothing.
pub record Reads {X : Type 0} (Means : X → Type 0) (result : Option X) : Type 0 where
  pub found : IfSome result Means
  pub only : (x : X) → Means x → result ≡ Some x

-- What is read is what the bytes mean, and NotMessage comes exactly where they mean nothing; the other error is want of
-- memory.
pub record Decodes {X : Type 0} (Means : X → Type 0) (result : Result X DecodeError) : Type 0 where
  pub found : IfOk result Means
  pub only : (x : X) → Means x → IfOk result (λ read. read ≡ x)
  pub not_message : IsErrOf result NotMessage → (x : X) → Means x → ⊥

-- Bytes have one meaning at most.
abbrev pub HasOneMeaning : {X : Type 0} → (X → Type 0) → Type 0
HasOneMeaning {X} Means = (x y : X) → Means x → Means y → x ≡ y

-- These bytes come behind those that were there. After want of memory nothing has changed, and it comes only where the
-- room was too small.
pub record AppendsBytes {X E : Type 0} (old new : Vec ℕ) (bytes : List ℕ) (result : Result X E) : Type 0 where
  pub ok : OnOk result (new.items ≡ old.items ++ bytes)
  pub err : OnErr result (new.items ≡ old.items)
  pub full : OnErr result (vec_capacity old < vec_len old + length bytes)
