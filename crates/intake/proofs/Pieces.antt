-- What was taken in, one read after another.
use Rattle.std.proofs.Common.{◌≡◌, ℕ, ◌+◌, ◌<◌, ◌≤◌, List, [], ◌++◌, length, take, refl, sym, ap, ◌∙◌, arith, Option, Some, None, append_assoc, append-nil, length-take-le, take_all, inl, inr, ◌⊎◌}
use Rattle.std.proofs.lemmas.Bool.{cases_lt}
use Rattle.std.proofs.lemmas.List.{take-append-le}
use Rattle.std.proofs.Math.Seq.{take-append-add, take-append_seam}
use Rattle.std.specs.Io.KnownBytes.{Consumes, IsAtEnd}
use Rattle.intake.specs.Taking.{Taken}
use borrow.Rule.Slice.PartMut.{put_mid}

pub consumes_on : (a b c : Option (List ℕ)) (x y : List ℕ) → Consumes a b x → Consumes b c y → Consumes a c (x ++ y)
consumes_on None b c x y h k = tt
consumes_on (Some p) None c x y h k = absurd h
consumes_on (Some p) (Some q) None x y h k = absurd k
consumes_on (Some p) (Some q) (Some r) x y h k = h ∙ ap (λ (t : List ℕ). x ++ t) k ∙ sym (append_assoc x y r)

-- the front of a buffer whose part from n on was written
pub front : (n k m : ℕ) (xs ys : List ℕ) → n ≤ length xs → m ≤ length ys → take (n + m) (put_mid n k xs ys) ≡ take n xs ++ take m ys
front n k m xs ys h l =
    ap (λ (j : ℕ). take (j + m) (put_mid n k xs ys)) (sym (length-take-le n xs h))
    ∙ take-append-add (take n xs) _ m
    ∙ ap (λ (t : List ℕ). take n xs ++ t) (take-append-le m ys _ l)

front_is : (xs input ys : List ℕ) (n : ℕ) → xs ≡ input ++ ys → length input ≤ n → (length input < n → ys ≡ []) → input ≡ take n xs
front_is xs input ys n e most all = go (cases_lt (length input) n)
  where
    go : (length input < n) ⊎ (n ≤ length input) → input ≡ take n xs
    go (inl less) =
        let same : xs ≡ input = e ∙ ap (λ (t : List ℕ). input ++ t) (all less) ∙ append-nil input in
        sym same ∙ sym (take_all n xs (omega (arith, ap (λ (t : List ℕ). length t) same, less)))
    go (inr more) =
        let k : length input ≡ n = omega (arith, most, more) in
        sym (ap (λ (t : List ℕ). take n t) e ∙ ap (λ (j : ℕ). take j (input ++ ys)) (sym k) ∙ take-append_seam input ys)

pub taken : (old new : Option (List ℕ)) (room : ℕ) (input : List ℕ) → Consumes old new input → length input ≤ room → (length input < room → IsAtEnd new) → Taken old new room input
taken None new room input c most all = record { front = tt; consumed = c; most = most; all = all }
taken (Some xs) None room input c most all = absurd c
taken (Some xs) (Some ys) room input c most all = record { front = front_is xs input ys room c most all; consumed = c; most = most; all = all }
