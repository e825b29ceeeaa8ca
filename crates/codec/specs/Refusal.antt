-- The refusals and their numbers. docs/RULES.md, "Who can be turned away, and by which number".
-- Assumes nothing.
use Rattle.std.specs.Prelude.{ℕ, List, [], ◌∷◌}
use Rattle.codec.specs.declared.refusal.Refusal.{Refusal}
use Rattle.codec.specs.declared.refusal.Refusal.TheVariants.{BodyShort, CountUnreadable, FieldHeaderCut, ValueLong, ValueCut, ParameterSize, UpdateUnreadable, MandatoryDisabled, TooManyVotes, RepeatedVote, ContradictoryVote, ForkVoteBarred, UnknownParameter, AbsentParameter, EntryDiffers, BlockVersionDiffers, VotingLengthZero, SettingLarge, VotesCollectedAbsent, BlockVersionAbsent, OutputShort, InputLong, StatusRuleLow, WrittenValueLong, WindowLengthOutside, RecordMalformed, HeightUnexpected}

-- by the miner or extension author, by the supplier of tables and settings, by the caller, by the archive
abbrev pub number : Refusal → ℕ
number BodyShort = 1
number CountUnreadable = 2
number FieldHeaderCut = 3
number ValueLong = 4
number ValueCut = 5
number ParameterSize = 6
number UpdateUnreadable = 7
number MandatoryDisabled = 8
number TooManyVotes = 9
number RepeatedVote = 10
number ContradictoryVote = 11
number ForkVoteBarred = 12
number UnknownParameter = 13
number AbsentParameter = 14
number EntryDiffers = 15
number BlockVersionDiffers = 16
number VotingLengthZero = 17
number SettingLarge = 18
number VotesCollectedAbsent = 19
number BlockVersionAbsent = 20
number OutputShort = 21
number InputLong = 22
number StatusRuleLow = 23
number WrittenValueLong = 24
number WindowLengthOutside = 33
number RecordMalformed = 25
number HeightUnexpected = 26

-- all of them, in order
abbrev pub refusals : List Refusal
refusals =
    BodyShort ∷ CountUnreadable ∷ FieldHeaderCut ∷ ValueLong ∷ ValueCut ∷ ParameterSize ∷ UpdateUnreadable ∷ MandatoryDisabled ∷
    TooManyVotes ∷ RepeatedVote ∷ ContradictoryVote ∷ ForkVoteBarred ∷ UnknownParameter ∷ AbsentParameter ∷ EntryDiffers ∷ BlockVersionDiffers ∷
    VotingLengthZero ∷ SettingLarge ∷ VotesCollectedAbsent ∷ BlockVersionAbsent ∷
    OutputShort ∷ InputLong ∷ StatusRuleLow ∷ WrittenValueLong ∷
    RecordMalformed ∷ HeightUnexpected ∷ WindowLengthOutside ∷ []
