-- The parts of a line, under a name for the tactics.
use Rattle.journal_format.proofs.WrittenLines.{line_text-parts}

pub ruleset line_parts = (line_text-parts)
