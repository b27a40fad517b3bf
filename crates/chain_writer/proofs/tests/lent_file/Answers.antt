use Rattle.std.proofs.Common.{ℕ, ◌++◌, length, refl, ap, ◌∙◌, arith}
use Rattle.std.proofs.lemmas.List.{length-append}
use Rattle.chain_lists.proofs.Growth.{front_swap_more, front_total_more}
use Rattle.chain_lists.specs.Lists.{begun, end_written, front_of, swap_written, total_written, with_swap, with_total}
use Rattle.chain_writer.proofs.Behind.{behind_begun, behind_ended, behind_more}
use Rattle.chain_writer.proofs.tests.lent_file.Goals as goal

pub returns : goal.returns
returns c =
    let none = begun 3 c.args.start in
    let one = with_swap none c.args.swap in
    let two = with_total one c.args.first in
    let three = with_total two c.args.second in
    let head = c.in_ok-file.ensures.cases in
    let swapped = c.in_ok-exchange.ensures.holds none head.2 in
    let first = c.total-totals.ensures.holds one swapped in
    let second = c.in_ok-total.ensures.holds two first.0 in
    let ended = c.end.ensures.holds three second.0.holding in
    let b₀ = behind_begun 3 c.args.start head.1 head.2.holding in
    let b₁ = behind_more (swap_written c.args.swap) b₀ head.2.holding c.in_ok-exchange.ensures.cases.1 (front_swap_more none c.args.swap refl) swapped.holding in
    let b₂ = behind_more (total_written c.args.first) b₁ swapped.holding first.1 (front_total_more one c.args.first) first.0.holding in
    let b₃ = behind_more (total_written c.args.second) b₂ first.0.holding second.1 (front_total_more two c.args.second) second.0.holding in (
      ended.2 ∙ omega (arith, second.0.holding.place, length-append (front_of three) (end_written c.total.new.self.progress.count)) ∙ ap (λ (k : ℕ). length (front_of three ++ end_written k)) second.0.holding.counted,
      behind_ended b₃ second.0.holding ended.3,
      c.end.ensures.lender ∙ c.in_ok-total.ensures.lender ∙ c.total-totals.ensures.lender ∙ c.in_ok-exchange.ensures.lender ∙ c.in_ok-file.ensures.lender,
    )
