-- The files one after another.
use Rattle.std.proofs.Common.{◌≡◌, ◌∙◌, ℕ, zero, suc, ◌+◌, ◌<◌, ◌≤◌, List, ◌++◌, [], ◌∷◌, map, drop, length, get_or, Option, Some, None, refl, sym, ap, subst, String, string_bytes, lt-ltb, le-ltb, add-one, drop-cons, append-nil, length-append, arith, drop_of_length-le, Global}
use Rattle.std.specs.Prelude.{IfSome}
use Rattle.std.specs.List.{All}
use Rattle.std.proofs.lemmas.List.{get_or-map, length-map}
use Rattle.std.proofs.lemmas.List.{map-append}
use Rattle.std.proofs.lemmas.List.Elements.{All-append}
use Rattle.asl_syn.specs.Command.{Command, usage, check, run, exec, self, masks, names_of, sources_of}
use Rattle.asl_syn.specs.declared.place.Source.{Source}
use Rattle.asl_rules.specs.report.Texts.{Text, File}
use Rattle.asl_rules.specs.report.Report.{Reading, all, long, with_file, read_by}
use Rattle.asl_cmd.specs.declared.reading.One.{One}
use Rattle.asl_cmd.specs.declared.reading.One.TheVariants as one
use Rattle.asl_answer.specs.private.Model.{file_of, AreShort}
use Rattle.asl_cmd.specs.private.Model.{IsOne, IsShortOne}

-- the files that were read, before what came of the others
abbrev pub prepend : List File → Reading → Reading
prepend [] reading = reading
prepend (f ∷ fs) reading = with_file f (prepend fs reading)

pub IfSome-from : {X : Type 0} (o : Option X) (P : X → Type 0) → ((x : X) → o ≡ Some x → P x) → IfSome o P
IfSome-from None P h = tt
IfSome-from (Some x) P h = h x refl

pub IfSome-at : {X : Type 0} (o : Option X) (P : X → Type 0) (x : X) → o ≡ Some x → IfSome o P → P x
IfSome-at o P x e h = subst (λ v. IfSome v P) e h

prepend-snoc : (xs : List File) (s : File) (r : Reading) → prepend (xs ++ s ∷ []) r ≡ prepend xs (with_file s r)
prepend-snoc [] s r = refl
prepend-snoc (x ∷ xs) s r = ap (with_file x) (prepend-snoc xs s r)

prepend-long : (xs : List File) (name : Text) → prepend xs (long name) ≡ long name
prepend-long [] name = refl
prepend-long (x ∷ xs) name = ap (with_file x) (prepend-long xs name)

prepend-all : (xs ys : List File) → prepend xs (all ys) ≡ all (xs ++ ys)
prepend-all [] ys = refl
prepend-all (x ∷ xs) ys = ap (with_file x) (prepend-all xs ys)

-- the first of what is left
rest_at : {Z : Type 0} (held : Text → Text) (names : List (String Z)) (i : ℕ) (d : String Z) → i < length names → d ≡ get_or names i d
    → read_by held (map string_bytes (drop i names)) ≡ read_by held (string_bytes d ∷ map string_bytes (drop (i + 1) names))
rest_at held names i d lt is =
    rw (add-one i, drop-cons names i d lt, ← is) refl

-- one more file was read
pub read_more : {Z : Type 0} (held : Text → Text) (names : List (String Z)) (i : ℕ) (d : String Z) (xs ys : List Source) (x : Source) (all_read : Reading)
    → i < length names → d ≡ get_or names i d → ys ≡ xs ++ x ∷ [] → file_of x ≡ (string_bytes d, held (string_bytes d)) → length (held (string_bytes d)) ≤ 1048576
    → prepend (map file_of xs) (read_by held (map string_bytes (drop i names))) ≡ all_read
    → prepend (map file_of ys) (read_by held (map string_bytes (drop (i + 1) names))) ≡ all_read
read_more held names i d xs ys x all_read lt is grown file short h =
    let left = read_by held (map string_bytes (drop (i + 1) names)) in
    let next : read_by held (string_bytes d ∷ map string_bytes (drop (i + 1) names)) ≡ with_file (string_bytes d, held (string_bytes d)) left = rw (le-ltb 1048576 (length (held (string_bytes d))) short) refl in
    let here : read_by held (map string_bytes (drop i names)) ≡ with_file (file_of x) left = rest_at held names i d lt is ∙ next ∙ ap (λ s. with_file s left) (sym file) in
    let items : map file_of ys ≡ map file_of xs ++ file_of x ∷ [] = ap (map file_of) grown ∙ map-append file_of xs (x ∷ []) in
    ap (λ s. prepend s left) items ∙ prepend-snoc (map file_of xs) (file_of x) left ∙ ap (prepend (map file_of xs)) (sym here) ∙ h

-- a file that is too long ends the reading
pub read_long : {Z : Type 0} (held : Text → Text) (names : List (String Z)) (i : ℕ) (d : String Z) (xs : List Source) (name : Text) (all_read : Reading)
    → i < length names → d ≡ get_or names i d → name ≡ string_bytes d → 1048576 < length (held (string_bytes d))
    → prepend (map file_of xs) (read_by held (map string_bytes (drop i names))) ≡ all_read
    → long name ≡ all_read
read_long held names i d xs name all_read lt is named much h =
    let next : read_by held (string_bytes d ∷ map string_bytes (drop (i + 1) names)) ≡ long (string_bytes d) = rw (lt-ltb 1048576 (length (held (string_bytes d))) much) refl in
    let here : read_by held (map string_bytes (drop i names)) ≡ long (string_bytes d) = rest_at held names i d lt is ∙ next in
    ap long named ∙ sym (prepend-long (map file_of xs) (string_bytes d)) ∙ ap (prepend (map file_of xs)) (sym here) ∙ h

-- the same by what one call came to, at the text t of the name
pub read_more_by : {Z : Type 0} (held : Text → Text) (names : List (String Z)) (i : ℕ) (d : String Z) (xs ys : List Source) (x : Source) (all_read : Reading) (t : Text) (o : One)
    → i < length names → d ≡ get_or names i d → ys ≡ xs ++ x ∷ [] → t ≡ string_bytes d → o ≡ one.File x → IsOne t (held t) o
    → prepend (map file_of xs) (read_by held (map string_bytes (drop i names))) ≡ all_read
    → prepend (map file_of ys) (read_by held (map string_bytes (drop (i + 1) names))) ≡ all_read
read_more_by held names i d xs ys x all_read t o lt is grown text case came h =
    let at_file : IsOne t (held t) (one.File x) = subst (IsOne t (held t)) case came in
    let at_name : IsOne (string_bytes d) (held (string_bytes d)) (one.File x) = subst (λ (u : Text). IsOne u (held u) (one.File x)) text at_file in
    read_more held names i d xs ys x all_read lt is grown at_name.0 at_name.1 h

pub read_long_by : {Z : Type 0} (held : Text → Text) (names : List (String Z)) (i : ℕ) (d : String Z) (xs : List Source) (all_read : Reading) (t : Text) (o : One) (n : String Global)
    → i < length names → d ≡ get_or names i d → t ≡ string_bytes d → o ≡ one.TooLong n → IsOne t (held t) o
    → prepend (map file_of xs) (read_by held (map string_bytes (drop i names))) ≡ all_read
    → long (string_bytes n) ≡ all_read
read_long_by held names i d xs all_read t o n lt is text case came h =
    let at_long : IsOne t (held t) (one.TooLong n) = subst (IsOne t (held t)) case came in
    let at_name : IsOne (string_bytes d) (held (string_bytes d)) (one.TooLong n) = subst (λ (u : Text). IsOne u (held u) (one.TooLong n)) text at_long in
    read_long held names i d xs (string_bytes n) all_read lt is at_name.0 at_name.1 h

-- all were read
pub read_end : {Z : Type 0} (held : Text → Text) (names : List (String Z)) (i : ℕ) (xs : List Source) (all_read : Reading)
    → length names ≤ i → prepend (map file_of xs) (read_by held (map string_bytes (drop i names))) ≡ all_read
    → all (map file_of xs) ≡ all_read
read_end held names i xs all_read past h =
    let none : drop i names ≡ [] = drop_of_length-le names past in
    ap all (sym (append-nil (map file_of xs))) ∙ sym (prepend-all (map file_of xs) []) ∙ ap (λ ns. prepend (map file_of xs) (read_by held (map string_bytes ns))) (sym none) ∙ h

-- what holds of the images holds of what they are images of
pub All-unmap : {Y : Type 0} (P : Text → Type 0) (f : Y → Text) (ys : List Y) → All P (map f ys) → All (λ y. P (f y)) ys
All-unmap P f ys h k d lt =
    let in_range : k < length (map f ys) = simp length-map lt in
    subst P (get_or-map f ys k d (f d) lt) (h k (f d) in_range)

All-one : {X : Type 0} (P : X → Type 0) (x : X) → P x → All P (x ∷ [])
All-one P x h k d lt = let first : 0 ≡ k = omega (arith, lt) in subst (λ n. P (get_or (x ∷ []) n d)) first h

-- one more short file
pub short_more : (xs ys : List Source) (x : Source) (o : One) → ys ≡ xs ++ x ∷ [] → o ≡ one.File x → IsShortOne o → AreShort xs → AreShort ys
short_more xs ys x o grown case came short =
    let P = λ (s : Source). length s.bytes.items ≤ 1048576 in
    let one_more : P x = subst IsShortOne case came in
    subst AreShort (sym grown) (All-append P xs (x ∷ []) short (All-one P x one_more))

-- no more files than names
pub grown_within : (xs ys : List Source) (x : Source) (i : ℕ) → ys ≡ xs ++ x ∷ [] → length xs ≤ i → length ys ≤ i + 1
grown_within xs ys x i grown few = let e : length ys ≡ length (xs ++ x ∷ []) = ap length grown in let f : length (xs ++ x ∷ []) ≡ length xs + 1 = length-append xs (x ∷ []) in omega (arith, e, f, few)

pub next_within : (i n : ℕ) → i < n → i + 1 ≤ n
next_within i n l = omega (arith, l)

pub all_within : (k i n : ℕ) → k ≤ i → i ≤ n → n ≤ 64 → k ≤ 64
all_within k i n p q r = omega (arith, p, q, r)

-- ---- the names that are sure

all_front : (P : Text → Type 0) (xs ys : List Text) → All P (xs ++ ys) → All P xs
all_front P [] ys h k d lt = absurd (omega (arith, lt))
all_front P (x ∷ xs) ys h zero d lt = h zero d (omega arith)
all_front P (x ∷ xs) ys h (suc k) d lt = all_front P xs ys (λ j e l. h (suc j) e (omega (arith, l))) k d (omega (arith, lt))

pub all_last : (P : Text → Type 0) (xs : List Text) (y : Text) → All P (xs ++ y ∷ []) → P y
all_last P [] y h = h zero y (omega arith)
all_last P (x ∷ xs) y h = all_last P xs y (λ j e l. h (suc j) e (omega (arith, l)))

-- the names of the source files are among those of all files
pub sources_sure : (P : Text → Type 0) (k : Command) → All P (names_of k) → All P (sources_of k)
sources_sure P usage h = h
sources_sure P (check names) h = h
sources_sure P (run steps names) h = h
sources_sure P (exec steps list names) h = all_front P names (list ∷ []) h
sources_sure P (self number size) h = h
sources_sure P (masks budget names) h = h
