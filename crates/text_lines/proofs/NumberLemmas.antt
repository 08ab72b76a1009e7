-- The value of digits, read from the left.
use Rattle.std.proofs.Common.{◌≡◌, ℕ, ◌+◌, ◌-◌, ◌*◌, ◌<◌, ◌≤◌, Bool, true, false, cond, List, [], ◌∷◌, length, get_or, take, drop, Some, None, Ok, Err, refl, sym, ap, ◌∙◌, arith, ◌⊎◌, inl, inr}
use Rattle.std.specs.Prelude.{nat_le, fold}
use Rattle.std.specs.List.{list_all}
use Rattle.std.specs.Option.{ok_or}
use Rattle.std.proofs.lemmas.List.{take_more, take-append-drop}
use Rattle.std.proofs.lemmas.Bool.Decides.{nat_tests}
use Rattle.std.proofs.lemmas.List.Sums.{fold_push, fold-append}
use Rattle.text_lines.specs.declared.number.NumberFault.TheVariants.{TooGreat}
use Rattle.text_lines.specs.Lines.{is_filled}
use Rattle.text_lines.specs.Numbers.{is_digit, value_of, number_of, within}

abbrev digit_after : ℕ → ℕ → ℕ
digit_after n b = 10 * n + (b - 48)

-- the value doesn't fall with more digits
grows : (xs : List ℕ) (n : ℕ) → n ≤ fold digit_after n xs
grows [] n = omega arith
grows (x ∷ xs) n = omega (arith, grows xs (10 * n + (x - 48)))

-- one digit more
pub value_more : (xs : List ℕ) (i b : ℕ) → i < length xs → b ≡ get_or xs i 0 → value_of (take (i + 1) xs) ≡ 10 * value_of (take i xs) + (b - 48)
value_more xs i b lt e = ap value_of (take_more xs i 0 lt) ∙ fold_push digit_after 0 (take i xs) (get_or xs i 0) ∙ rw e refl

-- a front has no greater value than the whole
pub value_front : (xs : List ℕ) (i : ℕ) → value_of (take i xs) ≤ value_of xs
value_front xs i =
    let e : value_of xs ≡ fold digit_after (value_of (take i xs)) (drop i xs) = ap value_of (sym (take-append-drop i xs)) ∙ fold-append digit_after 0 (take i xs) (drop i xs) in
    omega (arith, e, grows (drop i xs) (value_of (take i xs)))

-- digits are a number
pub number_is : (xs : List ℕ) → is_filled xs ≡ true → list_all is_digit xs ≡ true → number_of xs ≡ Some (value_of xs)
unfolding number_of
number_is xs f d = rw (f, d) refl

none_if : (b : Bool) (n : ℕ) → None ≡ cond b (Some n) None → b ≡ false
none_if true n e = absurd cc
none_if false n e = refl

-- where a front passes the limit, the whole does
pub too_great : (xs : List ℕ) (i v b limit : ℕ) → i < length xs → b ≡ get_or xs i 0 → v ≡ value_of (take i xs) → None ≡ cond (nat_le (10 * v + (b - 48)) limit) (Some (10 * v + (b - 48))) None → None ≡ cond (nat_le (value_of xs) limit) (Some (value_of xs)) None
too_great xs i v b limit lt is so_far e =
    let over : limit < 10 * v + (b - 48) = grind (arith, nat_tests, none_if _ _ e) in
    let test : nat_le (value_of xs) limit ≡ false = grind (arith, nat_tests, over, value_more xs i b lt is, value_front xs (i + 1), so_far) in
    rw test refl

-- what is empty or has another byte is none
pub not_number : (xs : List ℕ) → (is_filled xs ≡ false) ⊎ (list_all is_digit xs ≡ false) → number_of xs ≡ None
unfolding number_of
not_number xs (inl e) = rw e refl
not_number [] (inr e) = absurd cc
not_number (x ∷ xs) (inr e) = rw e refl

pub empty : (xs : List ℕ) → length xs ≡ 0 → is_filled xs ≡ false
empty [] e = refl
empty (x ∷ xs) e = absurd (omega arith)

pub some_filled : (xs : List ℕ) → ¬ (length xs ≡ 0) → is_filled xs ≡ true
some_filled [] e = absurd (e refl)
some_filled (x ∷ xs) e = refl

-- a value that was tested against a limit, as the number within it
within_by : (b : Bool) (n : ℕ) → cond b (Ok n) (Err TooGreat) ≡ ok_or (cond b (Some n) None) TooGreat
within_by true n = refl
within_by false n = refl

-- what value_up_to answers, as the number within the limit
pub within_ok_or : (xs : List ℕ) (limit : ℕ) → is_filled xs ≡ true → list_all is_digit xs ≡ true → within limit (number_of xs) ≡ ok_or (cond (nat_le (value_of xs) limit) (Some (value_of xs)) None) TooGreat
within_ok_or xs limit f d = rw (number_is xs f d) (within_by (nat_le (value_of xs) limit) (value_of xs))
