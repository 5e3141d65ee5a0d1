-- Titles come back from the definitions of captures as they were, and theirs from the code's.
use Rattle.std.proofs.Common.{◌≡◌, refl}
use Rattle.lat_captures.specs.Entries as entries
use Rattle.lat_captures.specs.Rules.{title_shown, title_of}
use Rattle.lat_captures.specs.declared.head.Title.{Title}

pub title_back : (t : Title) → title_of (title_shown t) ≡ t
title_back t = refl

pub title_shown_back : (t : entries.Title) → title_shown (title_of t) ≡ t
title_shown_back t = refl
