-- The line of each reply, and which replies have one.
use Rattle.std.specs.Prelude.{ℕ, ◌≤◌, List, ◌++◌, codes}
use Rattle.std.specs.Fmt.{decimal}
use Rattle.ldar_law.specs.declared.reply.Reply.{Reply}
use Rattle.ldar_law.specs.declared.reply.Reply.TheVariants.{Receipt, Conflict, Denied, Full, Shown, NoSuch, Fault, Memory}
use Rattle.ldar_law.specs.declared.request.What.{What}
use Rattle.ldar_law.specs.declared.request.What.TheVariants.{Unit as NoUnit, Quarter as NoQuarter, Half as NoHalf, Day as NoDay, Stops as NoStops}
use Rattle.ldar_law.specs.Texts.{end_of_line}
use Rattle.ldar_law.specs.Verdicts.{paragraph_of}

-- the word for what does not exist
abbrev pub what_text : What → List ℕ
what_text NoUnit = codes "unit"
what_text NoQuarter = codes "quarter"
what_text NoHalf = codes "half"
what_text NoDay = codes "day"
what_text NoStops = codes "stops"

-- the line of a reply; a view's text has its own lines
abbrev pub reply_text : Reply → List ℕ
reply_text (Receipt handheld number position) =
    codes "receipt " ++ decimal handheld ++ codes " " ++ decimal number ++ codes " " ++ decimal position ++ end_of_line
reply_text (Conflict position) = codes "conflict " ++ decimal position ++ end_of_line
reply_text (Denied fact rule) = codes "denied " ++ decimal fact ++ codes " " ++ decimal rule ++ codes " " ++ paragraph_of rule ++ end_of_line
reply_text (Full facts) = codes "full " ++ decimal facts ++ end_of_line
reply_text (Shown text) = text
reply_text (NoSuch what) = codes "no such " ++ what_text what ++ end_of_line
reply_text Fault = codes "disk fault" ++ end_of_line
reply_text Memory = codes "memory" ++ end_of_line

-- a denial names one of the 21 rules
abbrev pub HasRule : Reply → Type 0
HasRule (Receipt handheld number position) = Unit {0}
HasRule (Conflict position) = Unit {0}
HasRule (Denied fact rule) = (1 ≤ rule) × (rule ≤ 21)
HasRule (Full facts) = Unit {0}
HasRule (Shown text) = Unit {0}
HasRule (NoSuch what) = Unit {0}
HasRule Fault = Unit {0}
HasRule Memory = Unit {0}
