-- That the numbers tell the outcomes apart, and that there is one answer only.
pub mod Numbers
pub mod OneAnswer
