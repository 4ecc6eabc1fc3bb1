-- A fact of an Ok or an error, from another.
use Rattle.std.specs.{Prelude.{Result, Ok, Err, IfErr, OnErr, OnOk}, Result.IsErrAnd}

pub on_ok : {T E : Type 0} (r : Result T E) (P Q : Type 0) → (P → Q) → OnOk r P → OnOk r Q
on_ok (Ok x) P Q f h = f h
on_ok (Err e) P Q f h = h

pub on_ok_always : {T E : Type 0} (r : Result T E) (P : Type 0) → P → OnOk r P
on_ok_always (Ok x) P h = h
on_ok_always (Err e) P h = tt

pub on_ok_both : {T E : Type 0} (r : Result T E) (P Q R : Type 0) → (P → Q → R) → OnOk r P → OnOk r Q → OnOk r R
on_ok_both (Ok x) P Q R f g h = f g h
on_ok_both (Err e) P Q R f g h = h

pub on_err : {T E : Type 0} (r : Result T E) (P Q : Type 0) → (P → Q) → OnErr r P → OnErr r Q
on_err (Ok x) P Q f h = h
on_err (Err e) P Q f h = f h

pub on_both : {T E : Type 0} (r : Result T E) (P Q R : Type 0) → (P → R) → (Q → R) → OnOk r P → OnErr r Q → R
on_both (Ok x) P Q R f g p q = f p
on_both (Err e) P Q R f g p q = g q

-- the error that a `?` passes on
pub passed_on : {T E : Type 0} (r : Result T E) (Q P : E → Type 0) → ((e : E) → Q e → P e) → IsErrAnd r Q → IfErr r P
passed_on (Ok x) Q P f h = absurd h
passed_on (Err e) Q P f h = f e h

-- What holds whatever a result is holds on its error.
pub on_err_always : {X E : Type 0} (r : Result X E) (P : Type 0) → P → OnErr r P
on_err_always (Ok x) P p = tt
on_err_always (Err e) P p = p
