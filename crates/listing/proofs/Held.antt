-- Lines put one after another.
use Rattle.std.proofs.Common.{◌≡◌, ℕ, ◌+◌, ◌<◌, List, ◌++◌, length, drop, get_or, ap, Option, codes, subst}
use Rattle.std.proofs.Math.Seq.{drop-cons}
use Rattle.std.proofs.Math.Numerals.{add-one}
use Rattle.lines.specs.Text.{line_text}
use Rattle.outlet.specs.Sending.{Broken, Holding}
use Rattle.listing.specs.Texts.{lines_text}
use Rattle.outlet.proofs.Pieces.{goes_on, stops_in}

-- the line at place i, and the lines after it
pub next_line : (n i : ℕ) (ss : List ℕ) → i < length ss → lines_text n (drop i ss) ≡ (line_text n (get_or ss i 0) ++ codes "\n") ++ lines_text (n + 1) (drop (i + 1) ss)
next_line n i ss h = rw (add-one n, add-one i) (ap (lines_text n) (drop-cons ss i 0 h))

module _ {a b : Option (List ℕ)} {text : List ℕ} (page : List ℕ) (n i : ℕ) (ss : List ℕ) (low : i < length ss) (h : Holding a b (page ++ lines_text n (drop i ss)) text) where
  held : Holding a b (page ++ ((line_text n (get_or ss i 0) ++ codes "\n") ++ lines_text (n + 1) (drop (i + 1) ss))) text
  held = subst (λ (t : List ℕ). Holding a b (page ++ t) text) (next_line n i ss low) h

  -- the page and the line at place i were held back; now a page of them is
  pub pass_on : {c : Option (List ℕ)} {after : List ℕ} → Holding b c after (page ++ (line_text n (get_or ss i 0) ++ codes "\n")) → Holding a c (after ++ lines_text (n + 1) (drop (i + 1) ss)) text
  pass_on {after = after} k = goes_on page _ (lines_text (n + 1) (drop (i + 1) ss)) held after k

  -- it broke off in them
  pub pass_off : {c : Option (List ℕ)} → Broken b c (page ++ (line_text n (get_or ss i 0) ++ codes "\n")) → Broken a c text
  pass_off k = stops_in page _ (lines_text (n + 1) (drop (i + 1) ss)) held k
