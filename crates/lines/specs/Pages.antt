-- The lines of a page, and one line more.
use Rattle.std.specs.Prelude.{◌≡◌, ◌≢◌, ℕ, ◌+◌, ◌<◌, ◌≤◌, List, [], ◌++◌, codes, length, take, Result, MatchResult}
use Rattle.lines.specs.declared.line.Line.{Line}
use Rattle.lines.specs.declared.page.Page.{Page}
use Rattle.lines.specs.declared.filling.PageFull.{PageFull}
use Rattle.lines.specs.declared.line.TheConstants.{LINE_ROOM}
use Rattle.lines.specs.declared.page.TheConstants.{PAGE_SIZE}
use Rattle.lines.specs.Text.{line_text}

-- the bytes of the lines, each with its line feed
abbrev pub page_text : Page → List ℕ
page_text p = take p.used p.bytes

-- the line l was to be put on p: it and a line feed follow what p had, or less is left than the room of a line and nothing changed;
-- a page with no lines has that room
abbrev pub Puts : Page → Line → Result (Unit {0}) PageFull → Page → Type 0
Puts p l r q = MatchResult r
    (λ _. (length (page_text p) + LINE_ROOM ≤ PAGE_SIZE) × (page_text q ≡ page_text p ++ (line_text l.count l.set ++ codes "\n")))
    (λ _. (PAGE_SIZE < length (page_text p) + LINE_ROOM) × (q ≡ p) × (page_text p ≢ []))
