-- Lines that are held back before they are written.
use Rattle.std.specs.Prelude.{List, ℕ, ◌++◌, Option, Result, string_bytes}
use Rattle.outlet.specs.Sending.{Passes}
use Rattle.described.specs.declared.passing.Outgoing.{Outgoing}

-- the text came behind what was held back: of both a front was appended and the rest is held back, or it broke off
abbrev pub PassesOn : {W E : Type 0} → (W → Option (List ℕ)) → Outgoing W → Outgoing W → Result (Unit {0}) E → List ℕ → Type 0
PassesOn contents old new r text = Passes (contents old.writer) (contents new.writer) r (string_bytes new.held) (string_bytes old.held ++ text)
