-- What is made of a matroid, if there is one.
use Rattle.std.proofs.Common.{◌≡◌, Option, Some, None, MatchOption, ap, ◌∙◌}
use Rattle.std.specs.Option.{IsSomeAnd, option_map}

pub mapped : {A B D E : Type 0} (o : Option A) (r : Option B) (P : A → B → Type 0) (f : A → D) (h : B → E) (s : D → E) (edges : Option D) → option_map f o ≡ edges
    → MatchOption o (r ≡ None) (λ x. IsSomeAnd r (P x)) → ((x : A) (y : B) → P x y → h y ≡ s (f x)) → option_map h r ≡ option_map s edges
mapped None r P f h s edges q m k = ap (option_map h) m ∙ ap (option_map s) q
mapped (Some x) (Some y) P f h s edges q m k = ap (λ e. Some e) (k x y m) ∙ ap (option_map s) q
mapped (Some x) None P f h s edges q m k = absurd m
