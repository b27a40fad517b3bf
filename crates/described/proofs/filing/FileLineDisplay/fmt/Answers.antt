use Rattle.std.proofs.Common.{◌≡◌, ◌^◌, ◌-◌, ◌<◌, false, get_or, refl, Some, ap, ◌∙◌}
use Rattle.std.proofs.Output.{has_written_append, has_written_of_eq}
use Rattle.std.proofs.lemmas.Fmt.{hex_byte}
use Rattle.std.specs.Fmt.{format_spec, padded_integral, radix_prefix, shown_prefix, styled_digits_output}
use Rattle.std.specs.Option.{option_map}
use Rattle.described.proofs.Hex.{hex_more, two_digits}
use Rattle.described.proofs.filing.FileLineDisplay.fmt.Goals as goal

pub loop-byte-preserved : goal.loop-byte-preserved
loop-byte-preserved g c = λ p.
    let bytes = c.args.self.now.bytes.now in
    let i = c.loop-byte.byte-index in
    let so_far = c.loop-byte.invariant p in
    let small : get_or bytes i 0 < 256 = c.args.self.now.small i c.loop-byte-test.true in
    let spec = format_spec 32 0 4 2 (2 ^ 64 - 1) in
    let digits : styled_digits_output c.in_radix.result c.laid_out.result ≡ Some (two_digits (get_or bytes i 0)) =
    ap (styled_digits_output c.in_radix.result) c.laid_out.ensures
    ∙ ap (option_map (padded_integral spec false (shown_prefix spec (radix_prefix c.in_radix.result.base)))) c.in_radix.ensures
    ∙ ap Some (hex_byte false (get_or bytes i 0) small) in
    has_written_of_eq _ _ _ _ _ (hex_more bytes i c.loop-byte-test.true) (has_written_append _ _ _ _ _ _ so_far ((rw digits at c.in_ok-write-2.ensures.writes) so_far.plain refl))
