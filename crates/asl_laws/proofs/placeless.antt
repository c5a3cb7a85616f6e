-- Where each name stands for the same, expressions and written types are judged the same but for their trees, wherever the names have
-- their places.
pub mod Alike
pub mod AlikeRules
pub mod Placeless
