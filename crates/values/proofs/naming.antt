-- Names and their uses.

-- the search for a month word: `find_month`
pub mod MonthSearch
-- whether a use is allowed: `on_path`, `limits` and `may_open`
pub mod OpenWays
-- what a name means: `meaning_of`
pub mod MeaningWays
