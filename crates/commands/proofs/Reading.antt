-- The options of `run` one after the other, and all at once.
use Rattle.std.proofs.Common.{◌≡◌, ℕ, Bool, true, false, List, [], ◌∷◌, ◌++◌, Option, Some, None, bytes_eq, codes, length, is_some, if◌then◌else◌, refl, ap, option_map, ◌∙◌}
use Rattle.ason_base.specs.declared.limits.TheConstants.{MOST_TURNS, MOST_WORKERS}
use Rattle.commands.specs.{Given.{NextGiven, after_value, before_words, next_given, run_given, with_stride, with_telling, with_workers}, Numbers.number_in, Options.{RunOption, Stride, Tells, Workers, is_trace, once_or, option_of, options_of, run_in, run_of, run_with, strides_in, tellings_in, with_option, workers_in}, declared.options.Given.Given, declared.options.RunOptions.RunOptions, declared.options.Telling.Telling}
use Rattle.commands.specs.declared.options.Telling.TheVariants as told

abbrev and_then : {A B : Type 0} → Option A → (A → Option B) → Option B
and_then None f = None
and_then (Some a) f = f a

-- what these words make of what was given
abbrev pub after_options : List (List ℕ) → Given → Option Given
after_options [] g = Some g
after_options (w ∷ []) g = if is_trace w then and_then (with_telling g told.Trace) (after_options []) else None
after_options (w ∷ v ∷ ws) g =
    if is_trace w then and_then (with_telling g told.Trace) (after_options (v ∷ ws))
    else and_then (after_value g w v (length ws)) (after_options ws)

abbrev pub read_words : Option Given → Option RunOptions
read_words None = None
read_words (Some g) = Some (run_given g)

abbrev of : Option ℕ → Option ℕ → Option Telling → Given
of workers stride telling = record { workers = workers; stride = stride; telling = telling }

-- One option, and options

abbrev given_one : RunOption → Given → Option Given
given_one (Workers n) g = if is_some g.workers then None else Some (record g { workers = Some n })
given_one (Stride n) g = if is_some g.stride then None else Some (record g { stride = Some n })
given_one (Tells telling) g = with_telling g telling

abbrev given_if : Option RunOption → Given → Option Given
given_if None g = None
given_if (Some o) g = given_one o g

abbrev given_all : List RunOption → Given → Option Given
given_all [] g = Some g
given_all (o ∷ os) g = and_then (given_one o g) (given_all os)

abbrev given_from : Option (List RunOption) → Given → Option Given
given_from None g = None
given_from (Some os) g = given_all os g

same_then :
    (o : Option Given) (f h : Given → Option Given) → ((k : Given) → f k ≡ h k) → and_then o f ≡ and_then o h
same_then None f h each = refl
same_then (Some a) f h each = each a

nothing_then : (o : Option Given) → and_then o (λ a. let none : Option Given = None in none) ≡ None
nothing_then None = refl
nothing_then (Some a) = refl

joined :
    (first : Option RunOption) (os : Option (List RunOption)) (g : Given) →
    and_then (given_if first g) (given_from os) ≡ given_from (with_option first os) g
joined None os g = refl
joined (Some o) None g = nothing_then (given_one o g)
joined (Some o) (Some os) g = refl

workers_given : (w s a : Option ℕ) (t : Option Telling) →
    (if is_some w then None else with_workers (of w s t) a) ≡ given_if (option_map Workers a) (of w s t)
workers_given None s None t = refl
workers_given None s (Some n) t = refl
workers_given (Some m) s None t = refl
workers_given (Some m) s (Some n) t = refl

stride_given : (w s a : Option ℕ) (t : Option Telling) →
    (if is_some s then None else with_stride (of w s t) a) ≡ given_if (option_map Stride a) (of w s t)
stride_given w None None t = refl
stride_given w None (Some n) t = refl
stride_given w (Some m) None t = refl
stride_given w (Some m) (Some n) t = refl

one_given :
    (first second third : Bool) (a b : Option ℕ) (t : Telling) (g : Given) →
    (if first then (if is_some g.workers then None else with_workers g a)
    else if second then (if is_some g.stride then None else with_stride g b)
    else if third then with_telling g t else None)
    ≡ given_if (if first then option_map Workers a else if second then option_map Stride b
    else if third then Some (Tells t) else None) g
one_given true second third a b t g = workers_given g.workers g.stride a g.telling
one_given false true third a b t g = stride_given g.workers g.stride b g.telling
one_given false false true a b t g = refl
one_given false false false a b t g = refl

by_one : (trace : Bool) (g : Given) →
    (if trace then and_then (with_telling g told.Trace) (after_options []) else None)
    ≡ given_from (if trace then Some (Tells told.Trace ∷ []) else None) g
by_one true g = same_then (with_telling g told.Trace) (after_options []) (given_all []) (λ k. refl)
by_one false g = refl

-- words of which the options behind the first one, and those behind the second, are known
by_two :
    (trace : Bool) (w v : List ℕ) (ws : List (List ℕ)) (g : Given) →
    ((k : Given) → after_options (v ∷ ws) k ≡ given_from (options_of (v ∷ ws)) k) →
    ((k : Given) → after_options ws k ≡ given_from (options_of ws) k) →
    (if trace then and_then (with_telling g told.Trace) (after_options (v ∷ ws))
    else and_then (after_value g w v (length ws)) (after_options ws))
    ≡ given_from (if trace then with_option (Some (Tells told.Trace)) (options_of (v ∷ ws))
    else with_option (option_of w v (length ws)) (options_of ws)) g
by_two true w v ws g behind_one behind_two =
    same_then (with_telling g told.Trace) (after_options (v ∷ ws)) (given_from (options_of (v ∷ ws))) behind_one
    ∙ joined (Some (Tells told.Trace)) (options_of (v ∷ ws)) g
by_two false w v ws g behind_one behind_two =
    same_then (after_value g w v (length ws)) (after_options ws) (given_from (options_of ws)) behind_two
    ∙ (ap (λ (o : Option Given). and_then o (given_from (options_of ws)))
    (one_given (bytes_eq w (codes "--workers")) (bytes_eq w (codes "--stride")) (bytes_eq w (codes "--watch"))
    (number_in 1 MOST_WORKERS v) (number_in 1 MOST_TURNS v) (told.Watch (length ws)) g)
    ∙ joined (option_of w v (length ws)) (options_of ws) g)

by_options : (ws : List (List ℕ)) (g : Given) → after_options ws g ≡ given_from (options_of ws) g
by_options [] g = refl
by_options (w ∷ []) g = by_one (is_trace w) g
by_options (w ∷ v ∷ ws) g = by_two (is_trace w) w v ws g (by_options (v ∷ ws)) (by_options ws)

-- What was given

abbrev list_of : {A : Type 0} → Option A → List A
list_of None = []
list_of (Some a) = a ∷ []

abbrev said : List RunOption → Given → Option RunOptions
said os g = run_with (once_or 1 (list_of g.workers ++ workers_in os)) (once_or 1 (list_of g.stride ++ strides_in os))
    (once_or told.Tables (list_of g.telling ++ tellings_in os))

no_stride : (workers : Option ℕ) (tellings : Option Telling) → None ≡ run_with workers None tellings
no_stride None tellings = refl
no_stride (Some n) tellings = refl

no_telling : (workers strides : Option ℕ) → None ≡ run_with workers strides None
no_telling None strides = refl
no_telling (Some n) None = refl
no_telling (Some n) (Some m) = refl

by_kinds : (os : List RunOption) (w s : Option ℕ) (t : Option Telling) →
    read_words (given_all os (of w s t)) ≡ said os (of w s t)
by_kinds [] None None None = refl
by_kinds [] None None (Some t) = refl
by_kinds [] None (Some n) None = refl
by_kinds [] None (Some n) (Some t) = refl
by_kinds [] (Some n) None None = refl
by_kinds [] (Some n) None (Some t) = refl
by_kinds [] (Some n) (Some m) None = refl
by_kinds [] (Some n) (Some m) (Some t) = refl
by_kinds (Workers n ∷ os) None s t = by_kinds os (Some n) s t
by_kinds (Workers n ∷ os) (Some m) s t = refl
by_kinds (Stride n ∷ os) w None t = by_kinds os w (Some n) t
by_kinds (Stride n ∷ os) w (Some m) t =
    no_stride (once_or 1 (list_of w ++ workers_in os)) (once_or told.Tables (list_of t ++ tellings_in os))
by_kinds (Tells telling ∷ os) w s None = by_kinds os w s (Some telling)
by_kinds (Tells telling ∷ os) w s (Some t) =
    no_telling (once_or 1 (list_of w ++ workers_in os)) (once_or 1 (list_of s ++ strides_in os))

by_list : (os : Option (List RunOption)) → read_words (given_from os (of None None None)) ≡ run_in os
by_list None = refl
by_list (Some os) = by_kinds os None None None

-- reading the words one option after the other says what they say at once
pub read-as : (ws : List (List ℕ)) → read_words (after_options ws (of None None None)) ≡ run_of ws
read-as ws = ap read_words (by_options ws (of None None None)) ∙ by_list (options_of ws)

-- The first option

first_then : (trace : Bool) (ws vs : List (List ℕ)) (t v : Option Given) (next : NextGiven) →
    (if trace then before_words ws t else before_words vs v) ≡ Some next →
    (if trace then and_then t (after_options ws) else and_then v (after_options vs)) ≡ after_options next.1 next.0
first_then true ws vs None v next is = absurd (cc (is))
first_then true ws vs (Some k) v next is =
    let same : (k, ws) ≡ next = cc (is) in ap (λ (n : NextGiven). after_options n.1 n.0) same
first_then false ws vs t None next is = absurd (cc (is))
first_then false ws vs t (Some k) next is =
    let same : (k, vs) ≡ next = cc (is) in ap (λ (n : NextGiven). after_options n.1 n.0) same

-- one option is read, and the others are left
pub one-more : (ws : List (List ℕ)) (g : Given) (next : NextGiven) → next_given g ws ≡ Some next →
    after_options ws g ≡ after_options next.1 next.0
one-more [] g next is = absurd (cc (is))
one-more (w ∷ []) g next is = first_then (is_trace w) [] [] (with_telling g told.Trace) None next is
one-more (w ∷ v ∷ ws) g next is =
    first_then (is_trace w) (v ∷ ws) ws (with_telling g told.Trace) (after_value g w v (length ws)) next is

none_then : (trace : Bool) (ws vs : List (List ℕ)) (t v : Option Given) →
    (if trace then before_words ws t else before_words vs v) ≡ None →
    (if trace then and_then t (after_options ws) else and_then v (after_options vs)) ≡ None
none_then true ws vs None v is = refl
none_then true ws vs (Some k) v is = absurd (cc (is))
none_then false ws vs t None is = refl
none_then false ws vs t (Some k) is = absurd (cc (is))

-- words of which the first is no option have no meaning
pub no-more : (w : List ℕ) (ws : List (List ℕ)) (g : Given) → next_given g (w ∷ ws) ≡ None →
    after_options (w ∷ ws) g ≡ None
no-more w [] g is = none_then (is_trace w) [] [] (with_telling g told.Trace) None is
no-more w (v ∷ ws) g is =
    none_then (is_trace w) (v ∷ ws) ws (with_telling g told.Trace) (after_value g w v (length ws)) is
