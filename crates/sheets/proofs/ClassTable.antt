-- A table of classes whose every entry is the class of its place, by one test that is computed.
use Rattle.std.proofs.Common.{◌≡◌, ℕ, zero, suc, ◌+◌, ◌<◌, Bool, true, ◌&&◌, List, [], ◌∷◌, length, get_or, sym, refl, ap, ap₂, ◌==◌, ◌∙◌, le_of_suc-le-suc, not-suc-le-zero, add-zero, add-suc, suc-add, zero-add, arith}
use Rattle.std.proofs.lemmas.Bool.{and_parts, eqb-true}
use denote.Enum.Bare.{sameb}
use denote.Enum.Declared.{tag_of}
use Rattle.sheets.specs.contracts.classes.Class.{the_type}
use Rattle.sheets.specs.Classes.{class_number, class_of, same_class}
use Rattle.sheets.specs.declared.classes.Class.{Class}
use Rattle.sheets.specs.declared.classes.Class.TheVariants.{LineEnd, Blank, Digit, Capital, Small, Minus, Other}

-- the class at a place in the list of classes
class_at : ℕ → Class
class_at zero = LineEnd
class_at (suc zero) = Blank
class_at (suc (suc zero)) = Digit
class_at (suc (suc (suc zero))) = Capital
class_at (suc (suc (suc (suc zero)))) = Small
class_at (suc (suc (suc (suc (suc zero))))) = Minus
class_at (suc (suc (suc (suc (suc (suc n)))))) = Other

class_back : (a : Class) → class_at (class_number a) ≡ a
unfolding class_at
class_back LineEnd = refl
class_back Blank = refl
class_back Digit = refl
class_back Capital = refl
class_back Small = refl
class_back Minus = refl
class_back Other = refl

class_from_same : (a b : Class) → same_class a b ≡ true → a ≡ b
class_from_same a b t = sym (class_back a) ∙ ap class_at (eqb-true _ _ t) ∙ class_back b

-- each entry is the class of its place, counted from i
abbrev pub agrees : ℕ → List Class → Bool
agrees i [] = true
agrees i (x ∷ xs) = same_class x (class_of i) && agrees (suc i) xs

agrees_at : (xs : List Class) (i : ℕ) → agrees i xs ≡ true → (k : ℕ) → k < length xs → get_or xs k LineEnd ≡ class_of (i + k)
agrees_at [] i t k h = absurd (not-suc-le-zero h)
agrees_at (x ∷ xs) i t zero h = rw add-zero (class_from_same x (class_of i) (and_parts _ _ t).0)
agrees_at (x ∷ xs) i t (suc k) h =
    agrees_at xs (suc i) (and_parts (same_class x (class_of i)) _ t).1 k (le_of_suc-le-suc h) ∙ ap class_of (suc-add i k ∙ sym (add-suc i k))

-- a table of 256 classes that passes the test has the class of each byte
pub table_rule : (xs : List Class) (byte : ℕ) → agrees 0 xs ≡ true → length xs ≡ 256 → byte < 256 → get_or xs byte LineEnd ≡ class_of byte
table_rule xs byte t long h = agrees_at xs 0 t byte (omega arith) ∙ ap class_of (zero-add byte)

-- the tag by which a class is compared is its number
tag_is : (a : Class) → tag_of the_type a ≡ class_number a
tag_is LineEnd = refl
tag_is Blank = refl
tag_is Digit = refl
tag_is Capital = refl
tag_is Small = refl
tag_is Minus = refl
tag_is Other = refl

-- what `==` tells of two classes
pub told_same : (a b : Class) → sameb the_type a b ≡ same_class a b
told_same a b = ap₂ (λ m n. m == n) (tag_is a) (tag_is b)
